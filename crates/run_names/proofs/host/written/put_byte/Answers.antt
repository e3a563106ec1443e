use Rattle.std.proofs.Common.{◌%◌, [], ◌∷◌, ap, ◌∙◌}
use Rattle.ir_eval.specs.declared.value.Scalar.TheVariants.{Int}
use Rattle.module_arena.specs.declared.host.HostRow.TheVariants.{Putchar}
use Rattle.run_rules.specs.Host.{done}
use Rattle.run_names.proofs.OnHost.Refusals.{writes_none}
use Rattle.run_names.proofs.OnHost.Texts.{byte_put}
use Rattle.run_names.proofs.host.written.put_byte.Goals as goal

pub returns : goal.returns
returns c = λ m. (
  c.args.number % 256 ∷ [],
  byte_put c.args.number m c.one_leaf.result (c.one_leaf.ensures ∙ ap (λ b. Int b ∷ []) c.from.ensures),
  c.in_ok-push.ensures.items,
)

pub returns-in_err-push : goal.returns-in_err-push
returns-in_err-push c = λ m. writes_none (done Putchar (Int c.args.number ∷ []) m) m c.args.written.now.items c.push.new.self.items c.from_residual.result c.from_residual.ensures.0
