-- The samples from i on, run from the registers as they are now, give the registers and outputs of the whole run.
use Rattle.std.proofs.Common.{◌≡◌, drop}
use Rattle.std.proofs.lemmas.List.Edits.{sets}
use Rattle.run_convolution.specs.Running.{registers_of, outputs_of}
use Rattle.run_tables.specs.Inner.{ZeroFrom}
use Rattle.run_singly.proofs.singly.Given as goal

abbrev pub invariant-loop-i : goal.invariant-loop-i
invariant-loop-i l = record {
  zero_from : ZeroFrom l.w l.h l.registers;
  registers_left : registers_of l.h l.registers (drop l.i l.samples) ≡ registers_of l.h l.initial.registers l.samples;
  outputs_left : sets l.outputs l.i (outputs_of l.h l.registers (drop l.i l.samples)) ≡ sets l.initial.outputs 0 (outputs_of l.h l.initial.registers l.samples);
}
