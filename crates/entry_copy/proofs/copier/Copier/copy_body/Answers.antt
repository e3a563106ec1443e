use Rattle.std.proofs.Common.{map, sym, subst}
use Rattle.module_arena.specs.declared.entry.Body.{Body}
use Rattle.module_arena.specs.Renamed.{renamed_block}
use Rattle.entry_copy.specs.Copies.{IsBody, blocks_of}
use Rattle.entry_copy.proofs.ConstantsCopied.{body_copied}
use Rattle.entry_copy.proofs.copier.Copier.copy_body.Goals as goal

pub returns-clause-is : goal.returns-clause-is
returns-clause-is c structs globals a b parameters h k named =
    subst (λ (copy : Body). IsBody b parameters copy (map (renamed_block structs globals) (blocks_of a parameters c.args.body.now)))
    (λ j. record { blocks = (sym c.in_ok-moved_list.ensures) j; results = (sym c.in_ok-same_names.ensures) j })
    (body_copied structs globals a b c.args.self.now h parameters c.args.body.now k named)
