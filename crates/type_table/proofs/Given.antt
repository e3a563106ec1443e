-- A table in which several structs are given their bodies, one after another.
use Rattle.std.proofs.Common.{◌≡◌, ◌≢◌, ℕ, zero, suc, ◌+◌, ◌≤◌, ◌<◌, List, [], ◌∷◌, Option, Some, None, length, set, slice_get, ap, refl, sym, ◌∙◌, subst, arith, add-one, All, AllPairs}
use Rattle.std.proofs.lemmas.List.{length-set}
use Rattle.std.proofs.lemmas.List.Elements.{All-set, All-head, All-tail}
use Rattle.indexmap.specs.IndexMap.{set_value_at}
use Rattle.type_table.specs.declared.ir_type.IrType.{IrType}
use Rattle.type_table.specs.declared.ir_type.StructBody.{StructBody}
use Rattle.type_table.specs.Limits.{IsWithin}
use Rattle.type_table.specs.Types.{Types, with_body, names, bodies, trees, AllKnown, KnowsBody, IsKnownBody, IsGood}
use Rattle.type_table.specs.Batch.{StaysWithin, set_from, with_bodies}
use Rattle.type_table.proofs.Before.{within_before}
use Rattle.type_table.proofs.Defined.{names-defined, bodies-defined, trees-defined, set_value_at-place, table_of}

pub names-given : (t : Types) (first : ℕ) (given : List StructBody) → names (with_bodies t first given) ≡ names t
names-given t first [] = refl
names-given t first (body ∷ given) = names-given (with_body t first body) (suc first) given ∙ names-defined t first body

pub trees-given : (t : Types) (first : ℕ) (given : List StructBody) → trees (with_bodies t first given) ≡ trees t
trees-given t first [] = refl
trees-given t first (body ∷ given) = trees-given (with_body t first body) (suc first) given ∙ trees-defined t first body

pub bodies-given : (t : Types) (first : ℕ) (given : List StructBody) → bodies (with_bodies t first given) ≡ set_from (bodies t) first given
bodies-given t first [] = refl
bodies-given t first (body ∷ given) =
    bodies-given (with_body t first body) (suc first) given ∙ ap (λ (all : List (Option StructBody)). set_from all (suc first) given) (bodies-defined t first body)

pub types-given : (t : Types) (first : ℕ) (given : List StructBody) → (with_bodies t first given).types ≡ t.types
types-given t first [] = refl
types-given t first (body ∷ given) = types-given (with_body t first body) (suc first) given

pub many-defined : (t : Types) (id : ℕ) (body : StructBody) → length (with_body t id body).structs ≡ length t.structs
many-defined t id body = length-set t.structs id _

pub good-defined : (t : Types) (id : ℕ) (body : StructBody) → IsGood t → IsKnownBody t body → IsGood (with_body t id body)
good-defined t id body good known =
    let many = many-defined t id body in
    record {
      few = omega (arith, many, good.few);
      known = subst (λ c. AllKnown 0 c t.types) (sym many) good.known;
      known_bodies = subst (All (KnowsBody (length t.types))) (sym (bodies-defined t id body)) (All-set (KnowsBody (length t.types)) (bodies t) id (Some body) known good.known_bodies);
      distinct = subst (AllPairs (λ a b. a ≢ b)) (sym (names-defined t id body)) good.distinct;
    }

pub good-given : (t : Types) (first : ℕ) (given : List StructBody) → IsGood t → All (IsKnownBody t) given → IsGood (with_bodies t first given)
good-given t first [] good known = good
good-given t first (body ∷ given) good known =
    good-given (with_body t first body) (suc first) given (good-defined t first body good (All-head (IsKnownBody t) body given known)) (All-tail (IsKnownBody t) body given known)

-- the structs from this one on, so many, have no body yet
abbrev pub AreUndefined : Types → ℕ → ℕ → Type 0
AreUndefined t first count = (k : ℕ) → first ≤ k → k < first + count → slice_get (bodies t) k ≡ Some None

set_other : {A : Type 0} (xs : List A) (i k : ℕ) (x : A) → i < k → slice_get (set xs i x) k ≡ slice_get xs k
set_other [] i k x lt = refl
set_other (y ∷ xs) zero zero x lt = absurd (omega (arith, lt))
set_other (y ∷ xs) zero (suc k) x lt = refl
set_other (y ∷ xs) (suc i) zero x lt = absurd (omega (arith, lt))
set_other (y ∷ xs) (suc i) (suc k) x lt = set_other xs i k x (omega (arith, lt))

pub still_undefined : (t : Types) (first : ℕ) (body : StructBody) (count : ℕ) → AreUndefined t first (suc count) → AreUndefined (with_body t first body) (suc first) count
still_undefined t first body count none k le lt =
    ap (λ (bs : List (Option StructBody)). slice_get bs k) (bodies-defined t first body)
    ∙ set_other (bodies t) first k (Some body) (omega (arith, le)) ∙ none k (omega (arith, le)) (omega (arith, lt))

-- a table that is within its limits behind all of them was in front of them
back : (t : Types) (first : ℕ) (given : List StructBody) → IsGood t → All (IsKnownBody t) given → first + length given ≤ length t.structs → AreUndefined t first (length given)
    → IsWithin (with_bodies t first given) → IsWithin t
back t first [] good known fit none within = within
back t first (body ∷ given) good known fit none within =
    let many = many-defined t first body in
    let after = back (with_body t first body) (suc first) given (good-defined t first body good (All-head (IsKnownBody t) body given known)) (All-tail (IsKnownBody t) body given known)
    (omega (arith, many, fit)) (still_undefined t first body (length given) none) within in
    within_before t good first (omega (arith, fit)) (none first (omega arith) (omega arith)) body after

-- and so was it behind each
pub stays_within : (t : Types) (first : ℕ) (given : List StructBody) → IsGood t → All (IsKnownBody t) given → first + length given ≤ length t.structs → AreUndefined t first (length given)
    → IsWithin (with_bodies t first given) → StaysWithin t first given
stays_within t first [] good known fit none within = tt
stays_within t first (body ∷ given) good known fit none within =
    let many = many-defined t first body in
    let next_good = good-defined t first body good (All-head (IsKnownBody t) body given known) in
    let next_known = All-tail (IsKnownBody t) body given known in
    let next_fit : suc first + length given ≤ length (with_body t first body).structs = omega (arith, many, fit) in
    let next_none = still_undefined t first body (length given) none in
    (back (with_body t first body) (suc first) given next_good next_known next_fit next_none within, stays_within (with_body t first body) (suc first) given next_good next_known next_fit next_none within)

pub many-given : (t : Types) (first : ℕ) (given : List StructBody) → length (with_bodies t first given).structs ≡ length t.structs
many-given t first [] = refl
many-given t first (body ∷ given) = many-given (with_body t first body) (suc first) given ∙ many-defined t first body

-- one body further
pub given_next : (types : List IrType) (es fs : List (List ℕ × Option StructBody)) (index : ℕ) (rest later : List StructBody) (body : StructBody) → fs ≡ set_value_at es index (Some body) → rest ≡ body ∷ later
    → with_bodies (table_of types fs) (index + 1) later ≡ with_bodies (table_of types es) index rest
given_next types es fs index rest later body set taken =
    rw add-one
    (ap (λ x. with_bodies (table_of types x) (suc index) later) (set ∙ set_value_at-place es index (Some body))
    ∙ ap (with_bodies (table_of types es) index) (sym taken))

-- behind them stands what stood there
pub bodies_behind : (t : Types) (first : ℕ) (given : List StructBody) (k : ℕ) → first + length given ≤ k → slice_get (bodies (with_bodies t first given)) k ≡ slice_get (bodies t) k
bodies_behind t first [] k le = refl
bodies_behind t first (body ∷ given) k le =
    bodies_behind (with_body t first body) (suc first) given k (omega (arith, le))
    ∙ ap (λ (bs : List (Option StructBody)). slice_get bs k) (bodies-defined t first body)
    ∙ set_other (bodies t) first k (Some body) (omega (arith, le))
