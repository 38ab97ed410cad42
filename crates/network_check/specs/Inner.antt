-- What the internal functions of the crate give. Definitions only.
use Rattle.std.specs.Prelude.{◌-◌, List, ◌++◌, ℤ, pos, length, replicate}

-- 256 coefficients: "Coefficients past the last tap are 0"
unfoldable pub padded : List ℤ → List ℤ
padded h = h ++ replicate (256 - length h) (pos 0)
