-- The leaves of a parameter or result stand in a frame where its scope says.
use Rattle.std.proofs.Common.{◌≡◌, ℕ, zero, suc, ◌+◌, List, [], ◌∷◌, ◌++◌, length, map, refl, sym, ap, ◌∙◌, subst, arith, Bool, true, false, Some, append_assoc, cond}
use Rattle.std.specs.Prelude.{slice_get, find}
use Rattle.std.specs.List.{range_with_len}
use Rattle.std.proofs.lemmas.List.{length-append}
use Rattle.std.proofs.lemmas.Option.{same_Some}
use Rattle.run_rules.proofs.OnPlaces.Options.{none_some}
use Rattle.ir_memory.specs.declared.leaf.Leaf.{Leaf}
use Rattle.type_table.specs.Layout.{leaves}
use Rattle.module_arena.specs.Module.{LocalName, Function}
use Rattle.module_arena.specs.Same.{same_local}
use Rattle.run_rules.specs.Action.{Held, Action}
use Rattle.run_rules.specs.Constant.{Names}
use Rattle.run_rules.specs.Scope.{Placed, Typed, placed_from, locals_of, scope_of, local_in, leaves_at}
use Rattle.typed_runs.specs.Actions.{Typing, AreOrigins}
use Rattle.typed_runs.specs.Kinds.{AreAt, kinds_of, kinds_of_all}
use Rattle.typed_runs.specs.Look.Typings.{frame_kinds}
use Rattle.typed_runs.proofs.OnLook.Widths.{kinds_length}

-- what stands behind others, and in front of others
at_front : (ks others : List Leaf) (i : ℕ) (k : Leaf) → slice_get ks i ≡ Some k → slice_get (ks ++ others) i ≡ Some k
at_front [] others i k e = none_some k e
at_front (j ∷ ks) others zero k e = e
at_front (j ∷ ks) others (suc i) k e = at_front ks others i k e

at_back : (front ks : List Leaf) (i : ℕ) (k : Leaf) → slice_get ks i ≡ Some k → slice_get (front ++ ks) (length front + i) ≡ Some k
at_back [] ks i k e = let same : i ≡ 0 + i = omega arith in subst (λ n. slice_get ks n ≡ Some k) same e
at_back (j ∷ front) ks i k e =
    let same : suc (length front + i) ≡ suc (length front) + i = omega arith in
    subst (λ n. slice_get (j ∷ (front ++ ks)) n ≡ Some k) same (at_back front ks i k e)

are_at_all : (kinds ks : List Leaf) (at : ℕ) → ((i : ℕ) (k : Leaf) → slice_get ks i ≡ Some k → slice_get kinds (at + i) ≡ Some k) → AreAt kinds at ks
are_at_all kinds [] at h = tt
are_at_all kinds (k ∷ ks) at h = (
  let none : at + 0 ≡ at = omega arith in subst (λ n. slice_get kinds n ≡ Some k) none (h 0 k refl),
  are_at_all kinds ks (at + 1) (λ i j e. let same : at + suc i ≡ at + 1 + i = omega arith in subst (λ n. slice_get kinds n ≡ Some j) same (h (suc i) j e)),
)

in_the_middle : (front ks others : List Leaf) → AreAt (front ++ (ks ++ others)) (length front) ks
in_the_middle front ks others = are_at_all (front ++ (ks ++ others)) ks (length front) (λ i k e. at_back front (ks ++ others) i k (at_front ks others i k e))

-- the place of the one that is found
placed_at : (front : List Leaf) (xs : List Typed) (name : LocalName) (l : Placed) → find (λ l. same_local l.name name) (placed_from (length front) xs) ≡ Some l
    → AreAt (front ++ kinds_of_all (map (λ (x : Typed). x.1) xs)) l.place (kinds_of l.shape)
placed_at front [] name l e = none_some l e
placed_at front (x ∷ xs) name l e = go (same_local x.0 name) e (λ k. placed_at (front ++ kinds_of x.1) xs name l k)
  where
    others : List Leaf
    others = kinds_of_all (map (λ (x : Typed). x.1) xs)

    mine : Placed
    mine = record { name = x.0; shape = x.1; place = length front }

    next : length (front ++ kinds_of x.1) ≡ length front + leaves x.1
    next = length-append front (kinds_of x.1) ∙ ap (λ n. length front + n) (kinds_length x.1)

    go : (b : Bool) → cond b (Some mine) (find (λ (l : Placed). same_local l.name name) (placed_from (length front + leaves x.1) xs)) ≡ Some l
        → (find (λ (l : Placed). same_local l.name name) (placed_from (length (front ++ kinds_of x.1)) xs) ≡ Some l → AreAt ((front ++ kinds_of x.1) ++ others) l.place (kinds_of l.shape))
        → AreAt (front ++ (kinds_of x.1 ++ others)) l.place (kinds_of l.shape)
    go true k more = subst (λ (y : Placed). AreAt (front ++ (kinds_of x.1 ++ others)) y.place (kinds_of y.shape)) (same_Some mine l k) (in_the_middle front (kinds_of x.1) others)
    go false k more =
        subst (λ ks. AreAt ks l.place (kinds_of l.shape)) (append_assoc front (kinds_of x.1) others)
        (more (subst (λ n. find (λ (l : Placed). same_local l.name name) (placed_from n xs) ≡ Some l) (sym next) k))

pub local_at : (names : Names) (f : Function) (name : LocalName) (l : Placed) → local_in (scope_of names f) name ≡ Some l → AreAt (frame_kinds names f) l.place (kinds_of l.shape)
local_at names f name l e = placed_at [] (locals_of names f) name l e

-- and so it is had from there
held_there : (t : Typing) (look : ℕ → ℕ → ℕ → Action) (function : ℕ) (at : ℕ) (ks : List Leaf) → AreAt (t.kinds function) at ks → AreOrigins t look function ks (map Held (range_with_len at (length ks)))
held_there t look function at [] h = tt
held_there t look function at (k ∷ ks) h = (h.0, held_there t look function (at + 1) ks h.1)

pub local_had : (t : Typing) (look : ℕ → ℕ → ℕ → Action) (function : ℕ) (names : Names) (f : Function) (name : LocalName) (l : Placed) → t.kinds function ≡ frame_kinds names f → local_in (scope_of names f) name ≡ Some l
    → AreOrigins t look function (kinds_of l.shape) (leaves_at l)
local_had t look function names f name l e is =
    subst (λ n. AreOrigins t look function (kinds_of l.shape) (map Held (range_with_len l.place n))) (kinds_length l.shape)
    (held_there t look function l.place (kinds_of l.shape) (subst (λ ks. AreAt ks l.place (kinds_of l.shape)) (sym e) (local_at names f name l is)))
