use Rattle.std.proofs.Common.{◌≡◌, sym, subst, arith}
use Rattle.type_read.specs.Listed.{HasStructs}
use Rattle.type_read.proofs.StandIns.{no_structs, one_struct}
use Rattle.type_read.proofs.structs.add_stand_ins.Goals as goal

pub structs-init : goal.structs-init
structs-init c = subst (HasStructs 0) (sym c.requires) no_structs

pub name_struct-requires : goal.name_struct-requires
name_struct-requires c = let many = c.structs.invariant.many in omega (arith, many)

pub structs-preserved : goal.structs-preserved
structs-preserved c = one_struct c.structs.number c.structs.arena _ c.in_ok-name.name c.structs.invariant c.in-Ok.ensures.ok

pub returns : goal.returns
returns c =
    let same : c.structs.number ≡ c.args.count = omega arith in
    subst (λ n. HasStructs n c.structs.arena) same c.structs.invariant
