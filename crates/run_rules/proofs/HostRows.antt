-- What host functions give: worked examples, by hand and by computing the definitions.
use Rattle.std.specs.Prelude.{◌≡◌, [], ◌∷◌, ◌++◌, codes, refl}
use Rattle.std.specs.Fmt.{digits}
use Rattle.ir_tables.specs.declared.undefined_kind.UndefinedKind.TheVariants.{BadFormat}
use Rattle.ir_eval.specs.Cast.{cast_of}
use Rattle.ir_intrinsics.specs.Results.{apply_of}
use Rattle.ir_printf.specs.Pattern.{small_number, written_conversion, conversion_in, conversion_size}
use Rattle.module_arena.specs.HostRows.{host_row}
use Rattle.module_arena.specs.Known.{upto}
use Rattle.module_arena.specs.Module.{Module}
use Rattle.type_table.specs.Shape.{name_shape}
use Rattle.run_rules.specs.Access.{string_within}
use Rattle.run_rules.specs.Leaves.{repeated}
use Rattle.run_rules.specs.Opening.{block_with, with_string, with_strings, with_pointers, with_main}
use Rattle.run_rules.specs.Printing.{string_up_to, written_from}
use Rattle.run_rules.specs.State.{Exit, Undefined}
use Rattle.run_rules.specs.Side.{Side}
use Rattle.run_rules.specs.Step.{Outcome, advanced}
use Rattle.run_rules.proofs.Programs.{funnels, counts_bits_of_poison, prints_numbers, prints_nothing}
use Rattle.run_rules.proofs.Rows.{ended}

-- a module that is run alone, over an empty input
unfoldable calling : Module → Outcome
unfolding advanced block_with with_string with_strings with_pointers with_main repeated string_within host_row upto cast_of name_shape apply_of string_up_to written_from small_number written_conversion conversion_in conversion_size digits
calling m = Side (m ∷ []) [] [] 10

-- the high eight bits of 1000000110000000 moved by one
funnelled : calling funnels ≡ ended [] (Exit 3)
unfolding calling
funnelled = refl

-- a poison operand of an intrinsic over integers gives poison, and nobody asks for it
poison_is_counted : calling counts_bits_of_poison ≡ ended [] (Exit 0)
unfolding calling
poison_is_counted = refl

-- no argument is left for %d
nothing_to_print : calling prints_nothing ≡ ended [] (Undefined BadFormat)
unfolding calling
nothing_to_print = refl

-- "  -42|7   |00ff|ab" and a line feed
numbers_printed : calling prints_numbers ≡ ended (codes "  -42|7   |00ff|ab" ++ 10 ∷ []) (Exit 19)
unfolding calling
numbers_printed = refl
