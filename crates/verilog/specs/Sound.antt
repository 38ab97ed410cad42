-- What a module that is read must keep besides its grammar. A net of the subset has one driver. Definitions only.
use Rattle.std.specs.Prelude.{Bool, true, false, cond, not, ◌&&◌, List, [], ◌∷◌, ◌++◌, map, ℕ, ◌^◌, ltb}
use Rattle.text.specs.Ascii.{ascii}
use Rattle.verilog.specs.Expressions.{Expression, net, literal, negated, sum, difference, shifted}
use Rattle.verilog.specs.Syntax.{Net, Assign, Module, same}

-- a name among names
abbrev pub amongst : List ℕ → List (List ℕ) → Bool
amongst s [] = false
amongst s (t ∷ ts) = cond (same t s) true (amongst s ts)

-- no name twice
abbrev pub distinct : List (List ℕ) → Bool
distinct [] = true
distinct (s ∷ ss) = cond (amongst s ss) false (distinct ss)

-- every name among others
abbrev pub within : List (List ℕ) → List (List ℕ) → Bool
within [] names = true
within (s ∷ ss) names = cond (amongst s names) (within ss names) false

-- the words of the standard that are no names (3.7.2, annex B)
abbrev pub keywords : List (List ℕ)
keywords =
    ascii "always" ∷ ascii "and" ∷ ascii "assign" ∷ ascii "automatic" ∷ ascii "begin" ∷ ascii "buf" ∷ ascii "bufif0" ∷ ascii "bufif1"
    ∷ ascii "case" ∷ ascii "casex" ∷ ascii "casez" ∷ ascii "cell" ∷ ascii "cmos" ∷ ascii "config" ∷ ascii "deassign" ∷ ascii "default"
    ∷ ascii "defparam" ∷ ascii "design" ∷ ascii "disable" ∷ ascii "edge" ∷ ascii "else" ∷ ascii "end" ∷ ascii "endcase" ∷ ascii "endconfig"
    ∷ ascii "endfunction" ∷ ascii "endgenerate" ∷ ascii "endmodule" ∷ ascii "endprimitive" ∷ ascii "endspecify" ∷ ascii "endtable" ∷ ascii "endtask"
    ∷ ascii "event" ∷ ascii "for" ∷ ascii "force" ∷ ascii "forever" ∷ ascii "fork" ∷ ascii "function" ∷ ascii "generate" ∷ ascii "genvar"
    ∷ ascii "highz0" ∷ ascii "highz1" ∷ ascii "if" ∷ ascii "ifnone" ∷ ascii "incdir" ∷ ascii "include" ∷ ascii "initial" ∷ ascii "inout"
    ∷ ascii "input" ∷ ascii "instance" ∷ ascii "integer" ∷ ascii "join" ∷ ascii "large" ∷ ascii "liblist" ∷ ascii "library" ∷ ascii "localparam"
    ∷ ascii "macromodule" ∷ ascii "medium" ∷ ascii "module" ∷ ascii "nand" ∷ ascii "negedge" ∷ ascii "nmos" ∷ ascii "nor" ∷ ascii "noshowcancelled"
    ∷ ascii "not" ∷ ascii "notif0" ∷ ascii "notif1" ∷ ascii "or" ∷ ascii "output" ∷ ascii "parameter" ∷ ascii "pmos" ∷ ascii "posedge"
    ∷ ascii "primitive" ∷ ascii "pull0" ∷ ascii "pull1" ∷ ascii "pulldown" ∷ ascii "pullup" ∷ ascii "pulsestyle_ondetect" ∷ ascii "pulsestyle_onevent"
    ∷ ascii "rcmos" ∷ ascii "real" ∷ ascii "realtime" ∷ ascii "reg" ∷ ascii "release" ∷ ascii "repeat" ∷ ascii "rnmos" ∷ ascii "rpmos"
    ∷ ascii "rtran" ∷ ascii "rtranif0" ∷ ascii "rtranif1" ∷ ascii "scalared" ∷ ascii "showcancelled" ∷ ascii "signed" ∷ ascii "small"
    ∷ ascii "specify" ∷ ascii "specparam" ∷ ascii "strong0" ∷ ascii "strong1" ∷ ascii "supply0" ∷ ascii "supply1" ∷ ascii "table" ∷ ascii "task"
    ∷ ascii "time" ∷ ascii "tran" ∷ ascii "tranif0" ∷ ascii "tranif1" ∷ ascii "tri" ∷ ascii "tri0" ∷ ascii "tri1" ∷ ascii "triand" ∷ ascii "trior"
    ∷ ascii "trireg" ∷ ascii "unsigned" ∷ ascii "use" ∷ ascii "uwire" ∷ ascii "vectored" ∷ ascii "wait" ∷ ascii "wand" ∷ ascii "weak0"
    ∷ ascii "weak1" ∷ ascii "while" ∷ ascii "wire" ∷ ascii "wor" ∷ ascii "xnor" ∷ ascii "xor" ∷ []

abbrev pub any_keyword : List (List ℕ) → Bool
any_keyword [] = false
any_keyword (s ∷ ss) = cond (amongst s keywords) true (any_keyword ss)

-- the names of an expression are declared, and its numbers are below 2^31: the standard says that an unsized number has at least 32 bits, and 32 are taken here
unfoldable pub closed : List (List ℕ) → Expression → Bool
closed names (net s) = amongst s names
closed names (literal n) = ltb n (2 ^ 31)
closed names (negated e) = closed names e
closed names (sum e f) = closed names e && closed names f
closed names (difference e f) = closed names e && closed names f
closed names (shifted e f) = closed names e && closed names f

abbrev pub all_closed : List (List ℕ) → List Assign → Bool
all_closed names [] = true
all_closed names (a ∷ bs) = cond (closed names a.right) (all_closed names bs) false

abbrev pub called_in : List Net → List (List ℕ)
called_in ns = map (λ (n : Net). n.called) ns

abbrev pub left_in : List Assign → List (List ℕ)
left_in bs = map (λ (a : Assign). a.left) bs

-- an expression uses none of these names
unfoldable pub uses_none : List (List ℕ) → Expression → Bool
uses_none names (net s) = not (amongst s names)
uses_none names (literal n) = true
uses_none names (negated e) = uses_none names e
uses_none names (sum e f) = uses_none names e && uses_none names f
uses_none names (difference e f) = uses_none names e && uses_none names f
uses_none names (shifted e f) = uses_none names e && uses_none names f

-- no assign uses what it assigns itself, or what a later one does, and no later one assigns the same: a net has one driver and does not depend on itself, so no bit is
-- unknown. The standard asks for no order; texts in another one are outside of the subset
unfoldable pub ordered : List Assign → Bool
unfolding uses_none
ordered [] = true
ordered (a ∷ bs) = uses_none (a.left ∷ left_in bs) a.right && not (amongst a.left (left_in bs)) && ordered bs

-- outputs and wires: what is assigned
abbrev pub targets : Module → List Net
targets m = m.outputs ++ m.wires

abbrev pub nets_of : Module → List Net
nets_of m = m.input ∷ targets m

-- nets have names of their own, which are no keywords; every output and wire is assigned once, and nothing else is; only declared names are used, and only what the
-- assigns before have assigned
unfoldable pub sound : Module → Bool
sound m =
    not (any_keyword (m.called ∷ called_in (nets_of m)))
    && distinct (called_in (nets_of m))
    && within (left_in m.assigns) (called_in (targets m))
    && within (called_in (targets m)) (left_in m.assigns)
    && all_closed (called_in (nets_of m)) m.assigns
    && ordered m.assigns
