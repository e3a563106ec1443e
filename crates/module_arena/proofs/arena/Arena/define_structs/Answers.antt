use Rattle.std.proofs.Common.{◌∙◌, All, ap, arith, length, slice_get, subst, sym}
use Rattle.type_table.specs.Batch.{StaysWithin}
use Rattle.type_table.specs.Types.{IsKnownBody, bodies}
use Rattle.module_arena.specs.Lists.{Lists}
use Rattle.module_arena.proofs.Kept.{batch_given, batch_refused, kept_batch}
use Rattle.module_arena.proofs.arena.Arena.define_structs.Goals as goal

pub define_structs-requires-clause-known : goal.define_structs-requires-clause-known
define_structs-requires-clause-known c = let many = ap (λ (a : Lists). length a.table.structs) c.self.view_is in omega (arith, many, c.requires.known)

pub define_structs-requires-clause-fields : goal.define_structs-requires-clause-fields
define_structs-requires-clause-fields c = subst (λ (a : Lists). All (IsKnownBody a.table) c.args.given.now.items) (sym c.self.view_is) c.requires.fields

pub define_structs-requires-clause-undefined : goal.define_structs-requires-clause-undefined
define_structs-requires-clause-undefined c = λ k le lt. ap (λ (a : Lists). slice_get (bodies a.table) k) c.self.view_is ∙ c.requires.undefined k le lt

pub invariant_of-self : goal.invariant_of-self
invariant_of-self c = kept_batch c.define_structs.result _ _ _ c.args.first c.args.given.now.items c.self.invariant c.define_structs.ensures.ok (λ no. (c.define_structs.ensures.kept no).0)

pub returns-clause-ok : goal.returns-clause-ok
returns-clause-ok c = λ e. batch_given _ _ _ c.args.first c.args.given.now.items c.self.view_is (c.define_structs.ensures.ok e)

pub returns-clause-within : goal.returns-clause-within
returns-clause-within c = λ e. subst (λ (a : Lists). StaysWithin a.table c.args.first c.args.given.now.items) c.self.view_is (c.define_structs.ensures.within e)

pub returns-clause-kept : goal.returns-clause-kept
returns-clause-kept c = λ no. (let kept = c.define_structs.ensures.kept no in (batch_refused _ _ _ c.self.view_is kept.0, kept.1))
