use Rattle.std.proofs.Common.{◌++◌, map, option_to_list, sym, ap, ◌∙◌, append-nil}
use Rattle.item_build.proofs.Placing.{no_struct}
use Rattle.item_build.proofs.along.add_place.Goals as goal

pub returns-in_default : goal.returns-in_default
returns-in_default c =
    sym (append-nil c.args.places.now.items)
    ∙ ap (λ found. c.args.places.now.items ++ map (λ s. c.args.place) (option_to_list found)) (sym (no_struct c.args.item.now c.in_default.not-Struct))
