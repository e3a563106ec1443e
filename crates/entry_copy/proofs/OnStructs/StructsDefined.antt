-- One struct gets its body.
use Rattle.std.proofs.Common.{◌≡◌, inl, inr, ℕ, zero, suc, ◌<◌, ◌≤◌, List, [], ◌∷◌, map, length, set, slice_get, All, Option, Some, None, refl, sym, ap, ◌∙◌, subst, arith}
use Rattle.std.proofs.lemmas.List.{length-map, map-append}
use Rattle.std.proofs.lemmas.List.Elements.{All-weaker}
use Rattle.type_table.specs.declared.fault.TypeFault.{TypeFault}
use Rattle.type_table.specs.declared.fault.TypeFault.TheVariants.{Memory}
use Rattle.type_table.specs.declared.ir_type.StructBody.{StructBody}
use Rattle.type_table.specs.declared.ir_type.StructBody.TheVariants.{Opaque, Plain, Packed}
use Rattle.type_table.specs.Limits.{HasFault, IsWithin, IsWithinLimits}
use Rattle.type_table.specs.Shape.{shape}
use Rattle.type_table.specs.Tree.{named, TreeBody, Structs}
use Rattle.type_table.specs.Types.{with_body, names, bodies, trees, tree_body, structs, KnowsBody}
use Rattle.type_table.proofs.Defined.{bodies-defined, trees-defined}
use Rattle.type_table.proofs.Judged.{All-right}
use Rattle.module_arena.specs.Changes.{with_table}
use Rattle.module_arena.specs.Lists.{Lists}
use Rattle.module_arena.specs.Renamed.{renamed_tree, own}
use Rattle.item_build.proofs.OnTypes.Declaring.{all_mapped}
use Rattle.item_build.proofs.OnTypes.Staying.{names_same}
use Rattle.item_build.specs.Partly.{body_at, IsPartly, AllFit, IsDone}
use Rattle.item_build.proofs.Lessened.{within_less}
use Rattle.item_build.proofs.Partly as partly
use Rattle.item_build.proofs.Partly.{body_is, are_less, partly_defined, set_cases}
use Rattle.entry_copy.specs.Copies as copies

-- the types that fit in the whole fit in the part
pub part_fits : (whole : Structs) (a b : Lists) → IsPartly whole b → copies.AllFit own whole a → copies.AllFit own (structs b.table) a
part_fits whole a b is fit =
    All-weaker (λ x. IsWithinLimits (shape whole (renamed_tree own x))) (λ x. IsWithinLimits (shape (structs b.table) (renamed_tree own x)))
    (λ x h. within_less (structs b.table) whole (are_less whole b is) (renamed_tree own x) h) (trees a.table) fit

-- more types are known
pub knows_more : (count more : ℕ) → count ≤ more → (body : Option StructBody) → KnowsBody count body → KnowsBody more body
knows_more count more le None k = tt
knows_more count more le (Some Opaque) k = tt
knows_more count more le (Some (Plain parts)) k = All-weaker (λ id. id < count) (λ id. id < more) (λ id lt. omega (arith, lt, le)) parts k
knows_more count more le (Some (Packed parts)) k = All-weaker (λ id. id < count) (λ id. id < more) (λ id lt. omega (arith, lt, le)) parts k

-- a struct that has its body, and one that has none in either
pub has_body : (whole : Structs) (b : Lists) → IsPartly whole b → (id : ℕ) (body : StructBody) → slice_get (bodies b.table) id ≡ Some (Some body) → IsDone whole b id
has_body whole b is id body at = elim (is.bodies id (Some body) at) [ inl none ↦ absurd cc | inr here ↦ body_is b.table id (Some body) at ∙ here ]

pub has_none : (a b : Lists) (id : ℕ) → slice_get (bodies a.table) id ≡ Some None → slice_get (bodies b.table) id ≡ Some None → IsDone (structs a.table) b id
has_none a b id old new = body_is b.table id None new ∙ sym (body_is a.table id None old)

-- the structs of an arena fit
pub structs_fit : (a : Lists) → IsWithin a.table → AllFit (structs a.table)
structs_fit a within =
    let S = shape (structs a.table) in
    let ns = map named (names a.table) in
    let all = subst (All IsWithinLimits) (map-append S (trees a.table) ns) within.fits in
    let old = all_mapped S IsWithinLimits ns (All-right IsWithinLimits (map S (trees a.table)) (map S ns) all) in
    subst (All (λ name. IsWithinLimits (S (named name)))) (sym (names_same a.table)) (all_mapped named (λ t. IsWithinLimits (S t)) (names a.table) old)

as_long : (whole : Structs) (b : Lists) → IsPartly whole b → length (bodies b.table) ≡ length whole
as_long whole b is =
    length-map b.table.structs (λ (s : List ℕ × Option StructBody). s.1)
    ∙ sym (length-map b.table.structs (λ (s : List ℕ × Option StructBody). s.0))
    ∙ ap length (sym (names_same b.table) ∙ is.names)
    ∙ length-map whole (λ (s : List ℕ × TreeBody). s.0)

pub struct_there : (whole : Structs) (b : Lists) → IsPartly whole b → (id : ℕ) → id < length whole → id < length b.table.structs
struct_there whole b is id lt =
    let many = as_long whole b is in
    let all = length-map b.table.structs (λ (s : List ℕ × Option StructBody). s.1) in
    omega (arith, lt, many, all)

pub as_many_structs : (a : Lists) → length (structs a.table) ≡ length a.table.structs
as_many_structs a =
    sym (length-map (structs a.table) (λ (s : List ℕ × TreeBody). s.0)) ∙ ap length (names_same a.table) ∙ length-map a.table.structs (λ (s : List ℕ × Option StructBody). s.0)

set_at : {X : Type 0} (xs : List X) (i : ℕ) (x : X) → i < length xs → slice_get (set xs i x) i ≡ Some x
set_at [] i x lt = absurd (omega (arith, lt))
set_at (y ∷ ys) zero x lt = refl
set_at (y ∷ ys) (suc i) x lt = set_at ys i x (omega (arith, lt))

-- the struct with that number gets its body
module _ (whole : Structs) (b : Lists) (is : IsPartly whole b) (id : ℕ) (lt : id < length whole) (body : StructBody) (here : tree_body (trees b.table) (Some body) ≡ body_at whole id) where
  abbrev after : Lists
  after = with_table b (with_body b.table id body)

  pub after_partly : IsPartly whole after
  after_partly = partly_defined whole b id body is here

  pub after_memory : AllFit whole → (fault : TypeFault) → HasFault (with_body b.table id body) fault → fault ≡ Memory
  after_memory fit fault has = partly.memory_alone whole after after_partly fit fault has

  pub after_done : IsDone whole after id
  after_done = body_is after.table id (Some body) at ∙ ap (λ ts. tree_body ts (Some body)) (trees-defined b.table id body) ∙ here
    where
      at : slice_get (bodies after.table) id ≡ Some (Some body)
      at = ap (λ bs. slice_get bs id) (bodies-defined b.table id body) ∙ set_at (bodies b.table) id (Some body) (let many = as_long whole b is in omega (arith, many, lt))

  pub after_kept : (other : ℕ) → other < length whole → IsDone whole b other → IsDone whole after other
  after_kept other below done = by (slice_get (bodies after.table) other) refl
    where
      by : (o : Option (Option StructBody)) → slice_get (bodies after.table) other ≡ o → IsDone whole after other
      by None e =
          let many = as_long whole after after_partly in
          absurd (there (bodies after.table) other (omega (arith, many, below)) e)
        where
          there : {X : Type 0} (xs : List X) (k : ℕ) → k < length xs → slice_get xs k ≡ None → ⊥
          there [] k lt e = omega (arith, lt)
          there (x ∷ xs) zero lt e = cc
          there (x ∷ xs) (suc k) lt e = there xs k (omega (arith, lt)) e
      by (Some w) e = elim (set_cases (bodies b.table) id (Some body) other w (ap (λ bs. slice_get bs other) (sym (bodies-defined b.table id body)) ∙ e)) [
        | inl h ↦ subst (IsDone whole after) (sym h.0) after_done
        | inr old ↦ body_is after.table other w e ∙ ap (λ ts. tree_body ts w) (trees-defined b.table id body) ∙ sym (body_is b.table other w old) ∙ done
      ]
