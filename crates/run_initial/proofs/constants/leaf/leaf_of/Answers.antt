use Rattle.std.proofs.Common.{sym, ap, ◌∙◌, subst}
use Rattle.type_table.specs.Tree.{Tree}
use Rattle.module_arena.specs.View.{module_of}
use Rattle.run_rules.specs.Constant.{constant_value, one_leaf}
use Rattle.run_initial.specs.Constants.Sound.{HasType, IsSound, constant_of, names_of}
use Rattle.run_initial.proofs.OnConstants.LeafKinds.{kind_has}
use Rattle.run_initial.proofs.constants.leaf.leaf_of.Goals as goal

pub leaf_at-requires-clause-sound : goal.leaf_at-requires-clause-sound
leaf_at-requires-clause-sound c = subst (λ (x : Tree). IsSound (module_of c.args.names.now) x (constant_of c.args.names.now c.args.id)) c.kind_of.ensures.tree c.requires.sound

pub returns-clause-value : goal.returns-clause-value
returns-clause-value c = c.leaf_at.ensures.value ∙ ap (λ (x : Tree). one_leaf (constant_value (names_of c.args.names.now) x (constant_of c.args.names.now c.args.id))) (sym c.kind_of.ensures.tree)

pub returns-clause-kind : goal.returns-clause-kind
returns-clause-kind c = subst (λ (x : Tree). HasType x c.leaf_at.result) (sym c.kind_of.ensures.tree) (kind_has c.kind_of.result c.leaf_at.result c.leaf_at.ensures.kind)
