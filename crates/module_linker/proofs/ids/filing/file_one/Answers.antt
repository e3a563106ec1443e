use Rattle.std.proofs.Common.{◌≡◌, get_or, set, slice_get, Some, ap, ◌∙◌}
use Rattle.std.proofs.lemmas.Option.{slice_get-get_or}
use Rattle.module_linker.specs.Ids.Filing.{KnownIds, with_known}
use Rattle.module_linker.proofs.OnIds.Once.{filed_one, place_within}
use Rattle.module_linker.proofs.ids.filing.file_one.Goals as goal

pub returns : goal.returns
returns c =
    let ids = c.args.ids.now in
    let e = c.args.entry in
    let x : KnownIds = get_or ids e.part c.index-ids-entry.result in
    let at : slice_get ids e.part ≡ Some x = slice_get-get_or ids e.part c.index-ids-entry.result (place_within ids e c.requires) in
    filed_one ids e x at c.args.new c.requires (set ids e.part c.set.new.self) (ap (set ids e.part) (c.set.ensures ∙ ap (λ g. with_known x g c.args.new) c.global.ensures))
