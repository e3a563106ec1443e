-- The texts of a module, added in their order.
use Rattle.std.proofs.Common.{◌≡◌, List, [], map, flat_map, Option, true≢false, refl, sym, ap, subst}
use Rattle.std.specs.Prelude.{option_to_list}
use Rattle.std.proofs.lemmas.Option.{none-some}
use Rattle.type_table.specs.Types.{Types, names}
use Rattle.module_arena.specs.Lists.{Lists}
use Rattle.module_arena.specs.Module.{Bytes}
use Rattle.module_arena.specs.View.{module_of}
use Rattle.record_table.specs.StringTable.{once_each}
use Rattle.record_table.specs.Spelling.{texts_of}
use Rattle.record_write.specs.Order.Table.{PlacedTexts, no_texts, Holds, Gains}
use Rattle.record_write.specs.Order.Bodies.{body_texts}
use Rattle.record_write.proofs.OnOrder.Gaining.{gains_then, gains_same}
use Rattle.record_write.proofs.OnOrder.TextsOf.{texts_are}

holds_none : Holds no_texts []
holds_none = record { bytes = refl; placed = λ text h. absurd (true≢false (sym h)); others = λ text offset h. absurd (none-some offset h) }

pub texts_held : (a : Lists) {t0 t1 t2 t3 t4 t5 t6 t7 t8 : PlacedTexts} {source layout triple : Option Bytes} {types : Types}
    → source ≡ a.source → layout ≡ a.layout → triple ≡ a.triple → types ≡ a.table → t0 ≡ no_texts
    → Gains t0 t1 (option_to_list source) → Gains t1 t2 (option_to_list layout) → Gains t2 t3 (option_to_list triple) → Gains t3 t4 (names types)
    → Gains t4 t5 (map (λ v. v.name) a.variables) → Gains t5 t6 (map (λ f. f.name) a.functions) → Gains t6 t7 (map (λ x. x.name) a.aliases)
    → Gains t7 t8 (flat_map body_texts a.functions) → Holds t8 (once_each (texts_of (module_of a)))
texts_held a {t0} {t1} {t2} {t3} {t4} {t5} {t6} {t7} {t8} is_source is_layout is_triple is_types none source layout triple structs variables functions aliases bodies =
    let all = gains_then (gains_then (gains_then (gains_then (gains_then (gains_then (gains_then
    (gains_same (ap option_to_list is_source) source)
    (gains_same (ap option_to_list is_layout) layout))
    (gains_same (ap option_to_list is_triple) triple))
    (gains_same (ap names is_types) structs))
    variables) functions) aliases) bodies in
    subst (λ (xs : List Bytes). Holds t8 (once_each xs)) (sym (texts_are a)) (all.holds [] (subst (λ (t : PlacedTexts). Holds t []) (sym none) holds_none))
