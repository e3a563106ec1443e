use Rattle.std.proofs.Common.{◌≡◌, ℕ, length, slice_get, Option, Some, None, ap, ◌∙◌, subst}
use Rattle.std.proofs.lemmas.Option.{get_or_from_slice_get, slice_get_within}
use Rattle.type_table.specs.declared.ir_type.StructBody.{StructBody}
use Rattle.type_table.specs.declared.ir_type.StructBody.TheVariants as body
use Rattle.type_table.specs.Types.{Types, IsGood, KnowsBody, bodies, tree_body, trees}
use Rattle.link_names.specs.Structs.Shapes.{struct_tree}
use Rattle.link_names.proofs.structs.walk.fields_of.Goals as goal

-- what the struct with this body holds
tree_at : (t : Types) (id : ℕ) (b : Option StructBody) → slice_get (bodies t) id ≡ Some b → struct_tree t id ≡ tree_body (trees t) b
tree_at t id b at = ap (tree_body (trees t)) (get_or_from_slice_get (bodies t) id b None at)

-- its fields are types of the table
known_at : (t : Types) (id : ℕ) (b : Option StructBody) → IsGood t → slice_get (bodies t) id ≡ Some b → KnowsBody (length t.types) b
known_at t id b good at = subst (KnowsBody (length t.types)) (get_or_from_slice_get (bodies t) id b None at) (good.known_bodies id None (slice_get_within (bodies t) id b at))

pub returns-in_err-fields-clause-none : goal.returns-in_err-fields-clause-none
returns-in_err-fields-clause-none c = rw c.from_residual.ensures (tree_at c.args.from.now c.args.id None c.in_err-fields.ensures)

pub returns-in-Opaque-clause-none : goal.returns-in-Opaque-clause-none
returns-in-Opaque-clause-none c = tree_at c.args.from.now c.args.id (Some body.Opaque) (c.in_ok-fields.ensures ∙ ap (λ (b : StructBody). Some (Some b)) c.in-Opaque.is)

pub returns-in-Plain-clause-some : goal.returns-in-Plain-clause-some
returns-in-Plain-clause-some c = tree_at c.args.from.now c.args.id (Some (body.Plain c.in-Plain.fields)) (c.in_ok-fields.ensures ∙ ap (λ (b : StructBody). Some (Some b)) c.in-Plain.is)

pub returns-in-Plain-clause-known : goal.returns-in-Plain-clause-known
returns-in-Plain-clause-known c = known_at c.args.from.now c.args.id (Some (body.Plain c.in-Plain.fields)) c.type_count-count.ensures.good (c.in_ok-fields.ensures ∙ ap (λ (b : StructBody). Some (Some b)) c.in-Plain.is)

pub returns-in-Packed-clause-some : goal.returns-in-Packed-clause-some
returns-in-Packed-clause-some c = tree_at c.args.from.now c.args.id (Some (body.Packed c.in-Packed.fields)) (c.in_ok-fields.ensures ∙ ap (λ (b : StructBody). Some (Some b)) c.in-Packed.is)

pub returns-in-Packed-clause-known : goal.returns-in-Packed-clause-known
returns-in-Packed-clause-known c = known_at c.args.from.now c.args.id (Some (body.Packed c.in-Packed.fields)) c.type_count-count.ensures.good (c.in_ok-fields.ensures ∙ ap (λ (b : StructBody). Some (Some b)) c.in-Packed.is)
