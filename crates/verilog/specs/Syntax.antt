-- A module, read from tokens. IEEE 1364-2005, 12.3.4: ports declared in the module line, an output being a net; 4.3: `[15:0]` is 16 bits wide. Statements
-- are cut at `;` and ports at `,`, and each is read by itself: neither mark occurs in an expression. Definitions only.
use Rattle.std.specs.Prelude.{Bool, true, false, cond, ◌&&◌, List, [], ◌∷◌, ℕ, suc, ◌+◌, ◌*◌, ◌^◌, eqb, ltb, length}
use Rattle.text.specs.Ascii.{ascii}
use Rattle.verilog.specs.Reading.{Reading, reads, nothing, when_read}
use Rattle.verilog.specs.Tokens.{Token, name, number, mark, tokens}
use Rattle.verilog.specs.Expressions.{Expression, Parsed, parsed, failed, want_shifts, run, is_mark, rest}

-- a net: an input, an output or a wire
pub record Net : Type 0 where
  pub called : List ℕ
  pub width : ℕ
  pub signed : Bool

pub record Assign : Type 0 where
  pub left : List ℕ
  pub right : Expression

pub record Module : Type 0 where
  pub called : List ℕ
  pub input : Net
  pub outputs : List Net
  pub wires : List Net
  pub assigns : List Assign

-- ---- token lists cut at a mark

pub record Pieces : Type 0 where
  pub first : List Token
  pub rest : List (List Token)

abbrev pub with_token : Bool → Token → Pieces → Pieces
with_token true t p = record { first = []; rest = p.first ∷ p.rest }
with_token false t p = record { first = t ∷ p.first; rest = p.rest }

unfoldable pub cut_at : ℕ → List Token → Pieces
cut_at c [] = record { first = []; rest = [] }
cut_at c (t ∷ ts) = with_token (is_mark c t) t (cut_at c ts)

-- ---- what comes after a word, a mark, any name, any number; the end

-- two names, or a name and a word, are the same
abbrev pub same : List ℕ → List ℕ → Bool
same [] [] = true
same [] (b ∷ bs) = false
same (a ∷ l) [] = false
same (a ∷ l) (b ∷ bs) = cond (eqb a b) (same l bs) false

abbrev pub is_word : List ℕ → Token → Bool
is_word s (name t) = same s t
is_word s (number n) = false
is_word s (mark c) = false

abbrev pub when_true : {A : Type 0} → Bool → (List Token → Reading A) → List Token → Reading A
when_true true f ts = f ts
when_true false f ts = nothing

abbrev pub after_word : {A : Type 0} → List ℕ → (List Token → Reading A) → List Token → Reading A
after_word s f [] = nothing
after_word s f (t ∷ ts) = when_true (is_word s t) f ts

abbrev pub after_mark : {A : Type 0} → ℕ → (List Token → Reading A) → List Token → Reading A
after_mark c f [] = nothing
after_mark c f (t ∷ ts) = when_true (is_mark c t) f ts

abbrev pub name_at : {A : Type 0} → (List ℕ → List Token → Reading A) → Token → List Token → Reading A
name_at f (name s) ts = f s ts
name_at f (number n) ts = nothing
name_at f (mark c) ts = nothing

abbrev pub after_name : {A : Type 0} → (List ℕ → List Token → Reading A) → List Token → Reading A
after_name f [] = nothing
after_name f (t ∷ ts) = name_at f t ts

abbrev pub number_at : {A : Type 0} → (ℕ → List Token → Reading A) → Token → List Token → Reading A
number_at f (name s) ts = nothing
number_at f (number n) ts = f n ts
number_at f (mark c) ts = nothing

abbrev pub after_number : {A : Type 0} → (ℕ → List Token → Reading A) → List Token → Reading A
after_number f [] = nothing
after_number f (t ∷ ts) = number_at f t ts

abbrev pub at_end : {A : Type 0} → A → List Token → Reading A
at_end a [] = reads a
at_end a (t ∷ ts) = nothing

abbrev pub starts_with : List ℕ → List Token → Bool
starts_with s [] = false
starts_with s (t ∷ ts) = is_word s t

-- ---- declarations: `signed [h:0] name`, h below 2^31, or the same without `signed`, which is unsigned

abbrev pub net_of : List ℕ → ℕ → Bool → Net
net_of s w g = record { called = s; width = w; signed = g }

abbrev pub ranged : Bool → List Token → Reading Net
ranged g ts = after_mark 91 (after_number (λ h. after_mark 58 (after_number (λ l. when_true (eqb l 0 && ltb h (2 ^ 31)) (after_mark 93 (after_name (λ s. at_end (net_of s (suc h) g)))))))) ts

abbrev pub declared_by : Bool → List Token → Reading Net
declared_by true ts = ranged true (rest ts)
declared_by false ts = ranged false ts

abbrev pub declared : List Token → Reading Net
declared ts = declared_by (starts_with (ascii "signed") ts) ts

-- ---- the module line

-- without the `)` at the end
abbrev pub unclosed : List Token → Reading (List Token)
unclosed [] = nothing
unclosed (t ∷ []) = cond (is_mark 41 t) (reads []) nothing
unclosed (t ∷ u ∷ ts) = when_read (unclosed (u ∷ ts)) (λ ws. reads (t ∷ ws))

unfoldable pub output_nets : List (List Token) → Reading (List Net)
output_nets [] = reads []
output_nets (p ∷ ps) = when_read (after_word (ascii "output") declared p) (λ n. when_read (output_nets ps) (λ ns. reads (n ∷ ns)))

pub record Header : Type 0 where
  pub called : List ℕ
  pub input : Net
  pub outputs : List Net

abbrev pub ports_of : List ℕ → Pieces → Reading Header
ports_of s p =
    when_read (after_word (ascii "input") declared p.first) (λ n. when_read (output_nets p.rest) (λ ns. reads (record { called = s; input = n; outputs = ns })))

abbrev pub header_of : List Token → Reading Header
header_of ts = after_word (ascii "module") (after_name (λ s. after_mark 40 (λ us. when_read (unclosed us) (λ ws. ports_of s (cut_at 44 ws))))) ts

-- ---- the other lines

pub data Item : Type 0 where
  a_wire : Net → Item
  an_assign : Assign → Item

abbrev pub assign_of : List ℕ → Parsed → Reading Item
assign_of s (parsed e ts) = at_end (an_assign (record { left = s; right = e })) ts
assign_of s failed = nothing

abbrev pub either_item : Bool → List Token → Reading Item
either_item true ts = when_read (declared (rest ts)) (λ n. reads (a_wire n))
either_item false ts = after_word (ascii "assign") (after_name (λ s. after_mark 61 (λ us. assign_of s (run (8 + 8 * length us) want_shifts us)))) ts

abbrev pub item_of : List Token → Reading Item
item_of ts = either_item (starts_with (ascii "wire") ts) ts

pub record Body : Type 0 where
  pub wires : List Net
  pub assigns : List Assign

abbrev pub before_assigns : List Net → List Assign → Assign → Reading Body
before_assigns [] bs a = reads (record { wires = []; assigns = a ∷ bs })
before_assigns (n ∷ ns) bs a = nothing

-- a net is declared before it is used: no wire after an assign
abbrev pub with_item : Body → Item → Reading Body
with_item b (a_wire n) = reads (record { wires = n ∷ b.wires; assigns = b.assigns })
with_item b (an_assign a) = before_assigns b.wires b.assigns a

-- statements up to `endmodule`, which no `;` follows
unfoldable pub body_of : List Token → List (List Token) → Reading Body
body_of p [] = after_word (ascii "endmodule") (at_end (record { wires = []; assigns = [] })) p
body_of p (q ∷ qs) = when_read (body_of q qs) (λ b. when_read (item_of p) (with_item b))

abbrev pub rest_of : Header → List (List Token) → Reading Module
rest_of h [] = nothing
rest_of h (p ∷ ps) =
    when_read (body_of p ps) (λ b. reads (record { called = h.called; input = h.input; outputs = h.outputs; wires = b.wires; assigns = b.assigns }))

abbrev pub read_module : Pieces → Reading Module
read_module p = when_read (header_of p.first) (λ h. rest_of h p.rest)

unfoldable pub module_of : List ℕ → Reading Module
module_of text = read_module (cut_at 59 (tokens text))
