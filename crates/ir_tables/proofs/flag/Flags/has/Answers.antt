use Rattle.std.proofs.Common.{◌∙◌, ap, not, nat_eq, bit_and}
use Rattle.ir_tables.specs.Flags.{has_flag}
use Rattle.ir_tables.proofs.FlagBits.{and_flag}
use Rattle.ir_tables.proofs.flag.Flags.has.Goals as goal

pub returns : goal.returns
returns c =
    ap (λ code. not (nat_eq (bit_and c.self.inside.code code) 0)) c.code.ensures
    ∙ and_flag c.self.inside.code c.args.flag
    ∙ ap (λ flags. has_flag flags c.args.flag) c.self.view_is
