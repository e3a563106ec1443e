-- What the programs do: worked examples of runs, by hand and by computing the definitions.
use Rattle.std.specs.Prelude.{◌≡◌, ℕ, List, [], ◌∷◌, codes, refl}
use Rattle.ir_tables.specs.declared.undefined_kind.UndefinedKind.TheVariants.{BranchOnPoison, OutsideBlock}
use Rattle.ir_eval.specs.Arithmetic.{arithmetic}
use Rattle.ir_eval.specs.Cast.{cast_of}
use Rattle.ir_eval.specs.Operators.{binary_of}
use Rattle.module_arena.specs.HostRows.{host_row}
use Rattle.module_arena.specs.Known.{upto}
use Rattle.module_arena.specs.Module.{Module}
use Rattle.type_table.specs.Shape.{name_shape}
use Rattle.run_rules.specs.Access.{string_within}
use Rattle.run_rules.specs.Leaves.{repeated}
use Rattle.run_rules.specs.Opening.{block_with, with_string, with_strings, with_pointers, with_main}
use Rattle.run_rules.specs.State.{End, Exit, Undefined, StepsUsed, NoMain, Unresolved}
use Rattle.run_rules.specs.Side.{Side}
use Rattle.run_rules.specs.Step.{Outcome, advanced}
use Rattle.run_rules.proofs.Programs.{branches_on_poison, swaps, local_main, prints_a_line, reads_a_byte, calls_nowhere, puts_no_string, cycle_a, cycle_b, by_priority}

-- an output and an end
abbrev pub ended : List ℕ → End → Outcome
ended output end = record { output = output; end = end }

-- parts that are run side by side, over an empty input
unfoldable together : List Module → ℕ → Outcome
unfolding advanced block_with with_string with_strings with_pointers with_main repeated string_within host_row upto binary_of arithmetic cast_of name_shape
together parts bound = Side parts [] [] bound

-- the sum is poison, and the branch asks for it
branch_on_poison : together (branches_on_poison ∷ []) 10 ≡ ended [] (Undefined BranchOnPoison)
unfolding together
branch_on_poison = refl

-- phis get what they were to get before any of them did
phis_together : together (swaps ∷ []) 20 ≡ ended [] (Exit 11)
unfolding together
phis_together = refl

-- a local main is none
no_main : together (local_main ∷ []) 10 ≡ ended [] NoMain
unfolding together
no_main = refl

-- three steps are enough, the last of which returns
three_steps : together (prints_a_line ∷ []) 3 ≡ ended (65 ∷ 10 ∷ []) (Exit 0)
unfolding together
three_steps = refl

-- two are not enough: the output is there, and the return is due
two_steps : together (prints_a_line ∷ []) 2 ≡ ended (65 ∷ 10 ∷ []) StepsUsed
unfolding together
two_steps = refl

-- -1 modulo 256
end_of_input : together (reads_a_byte ∷ []) 10 ≡ ended [] (Exit 255)
unfolding together
end_of_input = refl

-- what is called is defined nowhere
unresolved : together (calls_nowhere ∷ []) 10 ≡ ended [] (Unresolved (codes "nope"))
unfolding together
unresolved = refl

-- the read goes on behind the variable
string_without_end : together (puts_no_string ∷ []) 10 ≡ ended [] (Undefined OutsideBlock)
unfolding together
string_without_end = refl

-- each name is looked up in its part
cycle : together (cycle_a ∷ cycle_b ∷ []) 10 ≡ ended [] (Exit 7)
unfolding together
cycle = refl

-- by unsigned priority, ties in order
constructors_in_order : together (by_priority ∷ []) 20 ≡ ended (98 ∷ 99 ∷ 97 ∷ 109 ∷ []) (Exit 0)
unfolding together
constructors_in_order = refl
