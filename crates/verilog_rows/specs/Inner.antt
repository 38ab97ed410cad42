-- The assign of a later row as its writers make it, for their contracts. Definitions only.
use Rattle.std.specs.Prelude.{List, [], ◌∷◌, ◌++◌, ℕ, ◌+◌, length}
use Rattle.network.specs.declared.Row.{Row}
use Rattle.text.specs.Ascii.{ascii}
use Rattle.text.specs.Numbers.{decimal}

-- what comes after a shifted row: `) + n` or `) - n`, by the character of the sign, and the right row
abbrev pub operand : ℕ → ℕ → List ℕ
operand sign right = ascii ") " ++ ((sign ∷ []) ++ (ascii " n" ++ decimal right))

-- a row whose shifted row comes first, and one whose right row does
abbrev pub shifted_first : ℕ → Row → List ℕ
shifted_first i r =
    (ascii "assign n" ++ decimal i) ++ ((ascii " = (n" ++ decimal r.left) ++ ((ascii " <<< " ++ decimal r.shift) ++ (operand r.sign r.right ++ ascii ";\n")))

abbrev pub right_first : ℕ → Row → List ℕ
right_first i r =
    (ascii "assign n" ++ decimal i) ++ ((ascii " = n" ++ decimal r.right) ++ ((ascii " - (n" ++ decimal r.left) ++ ((ascii " <<< " ++ decimal r.shift) ++ ascii ");\n")))

-- the bytes of either
abbrev pub later_bytes : ℕ → Row → ℕ
later_bytes i r = 25 + (length (decimal i) + (length (decimal r.left) + (length (decimal r.shift) + length (decimal r.right))))
