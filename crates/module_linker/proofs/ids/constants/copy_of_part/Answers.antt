use Rattle.std.proofs.Common.{◌≡◌, ◌<◌, ◌≤◌, length, get_or, set, slice_get, Result, Ok, Err, OnOk, Some, refl, arith}
use Rattle.std.proofs.lemmas.Option.{slice_get-get_or}
use Rattle.linkage_rules.specs.Ids.{modules}
use Rattle.link_rules.specs.Rename.{new_global}
use Rattle.link_rules.specs.Structs.{new_struct}
use Rattle.entry_copy.specs.Tables.{Tables}
use Rattle.module_linker.proofs.OnIds.CopiedOn.{none_yet, one_copied}
use Rattle.module_linker.proofs.ids.constants.copy_of_part.Goals as goal

all_ok : {A E P Q R S : Type 0} (r : Result A E) → OnOk r P → OnOk r Q → OnOk r R → (P → Q → R → S) → OnOk r S
all_ok (Ok x) p q s f = f p q s
all_ok (Err e) p q s f = tt

pub copy_constants-requires-clause-copies : goal.copy_constants-requires-clause-copies
copy_constants-requires-clause-copies c =
    let ms = modules c.args.parts.now in
    let i = c.args.part in
    let h = c.requires.copied in
    let a = c.arena_of.result.now in
    let a_at = c.arena_of.ensures.arena in
    let old : Tables = get_or c.args.copiers.now i c.index-copiers-part.result in
    let lt : i < length c.args.copiers.now = omega (arith, h.types.count, c.requires.known) in
    let at : slice_get c.args.copiers.now i ≡ Some old = slice_get-get_or c.args.copiers.now i c.index-copiers-part.result lt in
    let here : i ≤ i = omega arith in
    (new_struct ms i, new_global ms i, (h.types.types i a old a_at at).copies, none_yet ms i a c.args.into.now.arena old (h.ids i a old a_at at) (h.none i old here at))

pub returns-clause-copied : goal.returns-clause-copied
returns-clause-copied c =
    let ms = modules c.args.parts.now in
    let i = c.args.part in
    let h = c.requires.copied in
    let a = c.arena_of.result.now in
    let a_at = c.arena_of.ensures.arena in
    let ts = c.args.copiers.now in
    let b = c.args.into.now.arena in
    let new = c.copy_constants.new.self in
    let old : Tables = get_or ts i c.index-copiers-part.result in
    let lt : i < length ts = omega (arith, h.types.count, c.requires.known) in
    let at : slice_get ts i ≡ Some old = slice_get-get_or ts i c.index-copiers-part.result lt in
    let here : i ≤ i = omega arith in
    all_ok c.copy_constants.result c.copy_constants.ensures.grows c.copy_constants.ensures.others
    (c.copy_constants.ensures.copies (new_struct ms i) (new_global ms i) (h.types.types i a old a_at at).copies (none_yet ms i a b old (h.ids i a old a_at at) (h.none i old here at)))
    (λ grows others copied. one_copied c.args.parts.now i b c.copy_constants.new.into.arena ts (set ts i new) h a a_at old new at grows others copied refl)
