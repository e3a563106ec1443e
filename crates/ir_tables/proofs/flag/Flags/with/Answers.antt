use Rattle.std.proofs.Common.{◌≤◌, ◌∙◌, ap, sym, subst, ℕ, bit_or}
use Rattle.ir_tables.specs.Flags.{flags_with}
use Rattle.ir_tables.proofs.FlagBits.{or_flag, or_flag_bound, has_flag-with}
use Rattle.ir_tables.proofs.flag.Flags.with.Goals as goal

pub invariant_of-result : goal.invariant_of-result
invariant_of-result c = let P : ℕ → Type 0 = λ code. bit_or c.self.inside.code code ≤ 511 in subst P (sym c.code.ensures) (or_flag_bound c.self.inside.code c.args.flag c.self.invariant)

pub returns-clause-value : goal.returns-clause-value
returns-clause-value c =
    ap (λ code. bit_or c.self.inside.code code) c.code.ensures
    ∙ or_flag c.self.inside.code c.args.flag
    ∙ ap (λ flags. flags_with flags c.args.flag) c.self.view_is

pub returns-clause-exact : goal.returns-clause-exact
returns-clause-exact c = λ other. rw (returns-clause-value c) (has_flag-with c.args.self c.args.flag other)
