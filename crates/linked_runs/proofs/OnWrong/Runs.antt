-- What the parts do side by side, and what the modules with a mistake do, by computing the definitions.
use Rattle.std.proofs.Common.{◌≡◌, ℕ, Bool, true, false, not, List, [], ◌∷◌, refl, sym, ap, ◌∙◌, nat_eq, bytes_eq}
use Rattle.std.proofs.lemmas.Bool.{false≢true}
use Rattle.ir_tables.specs.declared.undefined_kind.UndefinedKind.TheVariants.{AnotherFunctionType}
use Rattle.ir_eval.specs.Arithmetic.{arithmetic}
use Rattle.ir_eval.specs.Cast.{cast_of}
use Rattle.ir_eval.specs.Operators.{binary_of}
use Rattle.module_arena.specs.HostRows.{host_row}
use Rattle.module_arena.specs.Known.{upto}
use Rattle.module_arena.specs.Module.{Module}
use Rattle.type_table.specs.Shape.{name_shape}
use Rattle.run_rules.specs.Access.{string_within}
use Rattle.run_rules.specs.Leaves.{repeated}
use Rattle.run_rules.specs.Opening.{block_with, with_string, with_strings, with_pointers, with_main}
use Rattle.run_rules.specs.Same.{RunAlike}
use Rattle.run_rules.specs.Side.{Side}
use Rattle.run_rules.specs.declared.end.End.{End}
use Rattle.run_rules.specs.declared.end.End.TheVariants.{Exit, Undefined}
use Rattle.run_rules.specs.Step.{Outcome, advanced}
use Rattle.linked_runs.specs.Wrong.Laws.{RunsOtherwise}
use Rattle.linked_runs.specs.Wrong.Parts.{commons_parts, constructors_parts, inside_parts, structs_parts, winner_parts, first_kept, name_kept, order_turned, struct_shared, unaligned}

-- an output and an end
abbrev ended : List ℕ → End → Outcome
ended output end = record { output = output; end = end }

-- parts that are run side by side, without arguments, over an empty input
unfoldable together : List Module → ℕ → Outcome
unfolding advanced block_with with_string with_strings with_pointers with_main repeated string_within host_row upto binary_of arithmetic cast_of name_shape
together parts bound = Side parts [] [] bound

-- whether an end has this status
abbrev exits : ℕ → End → Bool
exits n (Exit m) = nat_eq n m
exits n end = false

-- where a test tells two outcomes apart, the runs that come to them are not alike
differ : (test : Outcome → Bool) (ps qs : List Module) (bound : ℕ) (o p : Outcome) → together ps bound ≡ o → together qs bound ≡ p → test o ≡ false → test p ≡ true → RunAlike ps qs → ⊥
unfolding together
differ test ps qs bound o p left right fails holds alike = false≢true (sym fails ∙ ap test (sym left ∙ alike [] [] bound ∙ right) ∙ holds)

-- the second part's @v is read
own_is_read : together inside_parts 10 ≡ ended [] (Exit 2)
unfolding together
own_is_read = refl

-- the first part's @v is read
other_is_read : together (name_kept ∷ []) 10 ≡ ended [] (Exit 1)
unfolding together
other_is_read = refl

pub inside : RunsOtherwise inside_parts name_kept
inside = differ (λ o. exits 2 o.end) (name_kept ∷ []) inside_parts 10 (ended [] (Exit 1)) (ended [] (Exit 2)) other_is_read own_is_read refl refl

strong_is_called : together winner_parts 10 ≡ ended [] (Exit 2)
unfolding together
strong_is_called = refl

weak_is_called : together (first_kept ∷ []) 10 ≡ ended [] (Exit 1)
unfolding together
weak_is_called = refl

pub winner : RunsOtherwise winner_parts first_kept
winner = differ (λ o. exits 2 o.end) (first_kept ∷ []) winner_parts 10 (ended [] (Exit 1)) (ended [] (Exit 2)) weak_is_called strong_is_called refl refl

a_comes_first : together constructors_parts 20 ≡ ended (97 ∷ 98 ∷ 109 ∷ []) (Exit 0)
unfolding together
a_comes_first = refl

b_comes_first : together (order_turned ∷ []) 20 ≡ ended (98 ∷ 97 ∷ 109 ∷ []) (Exit 0)
unfolding together
b_comes_first = refl

pub constructors : RunsOtherwise constructors_parts order_turned
constructors =
    differ (λ o. bytes_eq (97 ∷ 98 ∷ 109 ∷ []) o.output) (order_turned ∷ []) constructors_parts 20 (ended (98 ∷ 97 ∷ 109 ∷ []) (Exit 0)) (ended (97 ∷ 98 ∷ 109 ∷ []) (Exit 0)) b_comes_first a_comes_first refl refl

-- 65,553 is the next address, which is rounded up to 16
stands_at_16 : together commons_parts 10 ≡ ended [] (Exit 32)
unfolding together
stands_at_16 = refl

-- and here to 8
stands_at_8 : together (unaligned ∷ []) 10 ≡ ended [] (Exit 24)
unfolding together
stands_at_8 = refl

pub alignment : RunsOtherwise commons_parts unaligned
alignment = differ (λ o. exits 32 o.end) (unaligned ∷ []) commons_parts 10 (ended [] (Exit 24)) (ended [] (Exit 32)) stands_at_8 stands_at_16 refl refl

another_type_is_called : together structs_parts 10 ≡ ended [] (Undefined AnotherFunctionType)
unfolding together
another_type_is_called = refl

one_type_is_called : together (struct_shared ∷ []) 10 ≡ ended [] (Exit 3)
unfolding together
one_type_is_called = refl

pub shared : RunsOtherwise structs_parts struct_shared
shared = differ (λ o. not (exits 3 o.end)) (struct_shared ∷ []) structs_parts 10 (ended [] (Exit 3)) (ended [] (Undefined AnotherFunctionType)) one_type_is_called another_type_is_called refl refl
