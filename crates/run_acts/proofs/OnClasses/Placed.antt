-- Leaves of a typed frame: where they stand, and what is had from there.
use Rattle.std.proofs.Common.{◌≡◌, ℕ, suc, ◌+◌, ◌<◌, ◌≤◌, List, [], ◌∷◌, length, Result, Ok, Err, refl, sym, ap, subst, arith}
use Rattle.std.specs.Prelude.{OnOk, OnErr}
use Rattle.std.specs.List.{AllZip}
use Rattle.std.proofs.lemmas.Option.{slice_get_within}
use Rattle.ir_memory.specs.declared.leaf.Leaf.{Leaf}
use Rattle.run_rules.specs.Action as actions
use Rattle.run_actions.specs.declared.stack.origin.Origin.{Origin}
use Rattle.run_actions.specs.declared.stack.origin.Origin.TheVariants.{Held, Known}
use Rattle.run_actions.specs.Stack.Origins.{origin_of}
use Rattle.run_actions.specs.Stack.UnderWay.{UnderWay, newest}
use Rattle.run_actions.specs.Operands.{HasPlaces, IsPlace, IsThere, leaf_of, MayGoOn}
use Rattle.run_decode.specs.declared.flat.action.Action.{Action}
use Rattle.run_decode.specs.declared.flat.pools.Pools.{Pools}
use Rattle.typed_runs.specs.Actions.{IsOrigin}
use Rattle.typed_runs.specs.Kinds.{AreAt, IsOf}
use Rattle.typed_runs.proofs.Leaves.{read_typed, same_lengths}
use Rattle.run_acts.specs.Classes.May.{MayAct}

-- kinds that stand in a list one after another have their places there
pub at_within : (ks : List Leaf) (to : ℕ) (js : List Leaf) → AreAt ks to js → 0 < length js → to + length js ≤ length ks
at_within ks to [] at some = absurd (omega (arith, some))
at_within ks to (j ∷ []) at some = let lt = slice_get_within ks to j at.0 in omega (arith, lt)
at_within ks to (j ∷ k ∷ js) at some = let rest = at_within ks (to + 1) (k ∷ js) at.1 (omega arith) in omega (arith, rest)

-- lists that go together are equally long
pub equally_long : {A B : Type 0} (R : A → B → Type 0) (xs : List A) (ys : List B) → AllZip R xs ys → length xs ≡ length ys
equally_long R [] [] h = refl
equally_long R [] (y ∷ ys) h = absurd h
equally_long R (x ∷ xs) [] h = absurd h
equally_long R (x ∷ xs) (y ∷ ys) h = ap suc (equally_long R xs ys h.1)

-- an operand is there, and is a leaf of the kind
pub record IsHad (count : ℕ) (s : UnderWay) (kind : Leaf) (o : Origin) : Type 0 where
  pub there : IsThere s o
  pub typed : IsOf count kind (leaf_of s o)

module _ (count : ℕ) (p : Pools) (action : Action) (s : UnderWay) (may : MayAct count p action s) where
  -- the kinds of the newest frame
  abbrev pub kinds : List Leaf
  kinds = may.typing.kinds (newest s.frames).function

  -- an operand of its function
  abbrev pub IsMeant : Leaf → actions.Origin → Type 0
  IsMeant = IsOrigin may.typing may.look (newest s.frames).function

  pub as_many : length (newest s.frames).leaves ≡ length kinds
  as_many = same_lengths count kinds (newest s.frames).leaves may.leaves

  pub origin_there : (kind : Leaf) (o : Origin) → IsMeant kind (origin_of o) → IsThere s o
  origin_there kind (Held place) h = let lt = slice_get_within kinds place kind h in omega (arith, lt, as_many)
  origin_there kind (Known leaf) h = tt

  pub had : (kind : Leaf) (o : Origin) (meant : actions.Origin) → origin_of o ≡ meant → IsMeant kind meant → IsHad count s kind o
  had kind o meant e h =
      let is = subst (IsMeant kind) (sym e) h in
      record {
        there = origin_there kind o is;
        typed = read_typed may.typing may.look count may.fixed (newest s.frames) may.leaves kind (origin_of o) is;
      }

  pub may_go_on : MayGoOn s
  may_go_on = record { running = may.running; room = may.room }

  pub place_there : (to : ℕ) (kind : Leaf) → AreAt kinds to (kind ∷ []) → IsPlace s to
  place_there to kind at = let lt = slice_get_within kinds to kind at.0 in omega (arith, lt, as_many)

  pub places_there : (to : ℕ) (js : List Leaf) (n : ℕ) → length js ≡ n → AreAt kinds to js → HasPlaces s to n
  places_there to js n long at = λ some. let all = at_within kinds to js at (omega (arith, long, some)) in omega (arith, all, long, as_many)

-- what follows for an answer

pub on_ok : {T E : Type 0} (r : Result T E) (P Q : Type 0) → (P → Q) → OnOk r P → OnOk r Q
on_ok (Ok v) P Q f h = f h
on_ok (Err e) P Q f h = tt

pub on_err : {T E : Type 0} (r : Result T E) (P Q : Type 0) → (P → Q) → OnErr r P → OnErr r Q
on_err (Ok v) P Q f h = tt
on_err (Err e) P Q f h = f h
