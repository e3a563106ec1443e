use Rattle.std.proofs.Common.{sym, ap, ◌∙◌, subst}
use Rattle.std.proofs.lemmas.Option.{get_or_from_slice_get}
use Rattle.ir_eval.specs.declared.value.Scalar.TheVariants.{Poison}
use Rattle.run_rules.specs.Action as actions
use Rattle.run_decode.specs.Flat.Flat.{IsLeafIn, leaf_of}
use Rattle.run_acts.proofs.classes.operand.origin.Goals as goal

pub at-requires : goal.at-requires
at-requires c = subst (IsLeafIn c.args.pools.now) c.in-Known.is c.requires

pub returns-in-Held : goal.returns-in-Held
returns-in-Held c = ap (leaf_of c.args.pools.now) (sym c.in-Held.is)

pub returns-in-Known : goal.returns-in-Known
returns-in-Known c =
    ap actions.Known (sym (get_or_from_slice_get c.args.pools.now.known c.in-Known.place c.at.result.now Poison c.at.ensures)) ∙ ap (leaf_of c.args.pools.now) (sym c.in-Known.is)
