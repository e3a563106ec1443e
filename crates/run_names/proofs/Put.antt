-- Variables that are put one behind another lie where they are defined to lie.
use Rattle.std.proofs.Common.{◌≡◌, ℕ, zero, suc, ◌+◌, ◌<◌, ◌≤◌, List, [], ◌∷◌, ◌++◌, map, filter, length, take, drop, Bool, true, false, not, cond, nat_lt, Some, None, refl, sym, ap, ap₂, ◌∙◌, subst, arith, append_assoc, append-nil, true≢false}
use Rattle.std.specs.Prelude.{slice_get, position, unwrap_or, if◌then◌else◌, ⊤}
use Rattle.std.specs.List.{AllByRecursion, position_or_len}
use Rattle.std.specs.Map.{lookup}
use Rattle.std.specs.Int.{next_multiple_of}
use Rattle.std.specs.Option.{option_map_or}
use Rattle.std.proofs.lemmas.Bool.{cond-true, cond-false, lt-ltb}
use Rattle.std.proofs.lemmas.List.{drop_all}
use Rattle.std.proofs.lemmas.Option.{same_Some}
use Rattle.module_arena.specs.declared.entry.Variable.{Variable}
use Rattle.module_arena.specs.Lists.{Lists}
use Rattle.linkage_rules.specs.declared.symbol.Symbol.{Symbol}
use Rattle.linkage_rules.specs.Entries.{same_symbol}
use Rattle.linkage_rules.specs.Addresses.{Room, placed_from}
use Rattle.linkage_rules.specs.SymbolLaws.{symbol_self, symbol_exact}
use Rattle.linkage_rules.proofs.Steps.{drop_more}
use Rattle.run_rules.specs.Plan as plans
use Rattle.run_names.specs.declared.spot.Spot.{Spot}
use Rattle.run_names.specs.Spots.{is_defined, needs, spot_of, spot_at, size_of, align_of}

-- where the next can lie behind a spot
abbrev pub behind : Spot → ℕ
behind s = s.start + s.size + 16

one_later : (id k n : ℕ) → n ≡ id + 1 + k → n ≡ id + suc k
one_later id k n e = omega (arith, e)

module _ (a : Lists) where
  -- the spots of variables, of which the first has that number, behind an address
  abbrev pub spots_from : ℕ → ℕ → List Variable → List Spot
  spots_from id next [] = []
  spots_from id next (v ∷ vs) = if is_defined v then spot_of a id next v ∷ spots_from (id + 1) (behind (spot_of a id next v)) vs else spots_from (id + 1) next vs

  -- these are put, and the others come behind that address
  abbrev pub ArePut : List Variable → ℕ → List Spot → ℕ → Type 0
  ArePut vs k spots next = spots_from 0 65536 vs ≡ spots ++ spots_from k next (drop k vs)

  pub one_put : (vs : List Variable) (k : ℕ) (v : Variable) (spots : List Spot) (next : ℕ) → ArePut vs k spots next → slice_get vs k ≡ Some v → is_defined v ≡ true
      → ArePut vs (k + 1) (spots ++ spot_of a k next v ∷ []) (behind (spot_of a k next v))
  one_put vs k v spots next h at is =
      h ∙ ap (λ l. spots ++ spots_from k next l) (drop_more vs k v at)
      ∙ ap (λ l. spots ++ l) (cond-true (is_defined v) (spot_of a k next v ∷ spots_from (k + 1) (behind (spot_of a k next v)) (drop (k + 1) vs)) (spots_from (k + 1) next (drop (k + 1) vs)) is)
      ∙ sym (append_assoc spots (spot_of a k next v ∷ []) (spots_from (k + 1) (behind (spot_of a k next v)) (drop (k + 1) vs)))

  pub none_put : (vs : List Variable) (k : ℕ) (v : Variable) (spots : List Spot) (next : ℕ) → ArePut vs k spots next → slice_get vs k ≡ Some v → is_defined v ≡ false → ArePut vs (k + 1) spots next
  none_put vs k v spots next h at is =
      h ∙ ap (λ l. spots ++ spots_from k next l) (drop_more vs k v at)
      ∙ ap (λ l. spots ++ l) (cond-false (is_defined v) (spot_of a k next v ∷ spots_from (k + 1) (behind (spot_of a k next v)) (drop (k + 1) vs)) (spots_from (k + 1) next (drop (k + 1) vs)) is)

  pub spot_is : (n next : ℕ) (v : Variable) → slice_get a.variables n ≡ Some v → spot_at a n next ≡ spot_of a n next v
  spot_is n next v at = ap (λ o. option_map_or (spot_of a n next) o (record { variable = n; start = next; size = 0; align = 1; constant = false })) at

  pub step_put : (vs : List Variable) (k : ℕ) (v : Variable) (spots after : List Spot) (next behind_it : ℕ) (s : Spot) → ArePut vs k spots next → slice_get vs k ≡ Some v → is_defined v ≡ true
      → s ≡ spot_of a k next v → after ≡ spots ++ s ∷ [] → behind_it ≡ behind s → ArePut vs (k + 1) after behind_it
  step_put vs k v spots after next behind_it s put at is told more there =
      one_put vs k v spots next put at is
      ∙ ap₂ (λ l n. l ++ spots_from (k + 1) n (drop (k + 1) vs)) (sym (more ∙ ap (λ x. spots ++ x ∷ []) told)) (sym (there ∙ ap behind told))

  pub pass_put : (vs : List Variable) (k : ℕ) (v : Variable) (spots after : List Spot) (next behind_it : ℕ) → ArePut vs k spots next → slice_get vs k ≡ Some v → is_defined v ≡ false → after ≡ spots → behind_it ≡ next
      → ArePut vs (k + 1) after behind_it
  pass_put vs k v spots after next behind_it put at is more there =
      none_put vs k v spots next put at is ∙ ap₂ (λ l n. l ++ spots_from (k + 1) n (drop (k + 1) vs)) (sym more) (sym there)

  -- all are put
  pub all_put : (vs : List Variable) (k : ℕ) (spots : List Spot) (next : ℕ) → length vs ≤ k → ArePut vs k spots next → spots_from 0 65536 vs ≡ spots
  all_put vs k spots next past put = put ∙ ap (λ l. spots ++ spots_from k next l) (drop_all k vs past) ∙ append-nil spots

  -- ---- what is told of them

  abbrev pub needed : Variable → plans.Variable
  needed v = record { size = size_of a v; align = align_of a v; constant = v.constant }

  pub spots_need : (id next : ℕ) (vs : List Variable) → map needs (spots_from id next vs) ≡ map needed (filter is_defined vs)
  spots_need id next [] = refl
  spots_need id next (v ∷ vs) = go (is_defined v) (spots_need (id + 1) (behind (spot_of a id next v)) vs) (spots_need (id + 1) next vs)
    where
      go : (b : Bool) → map needs (spots_from (id + 1) (behind (spot_of a id next v)) vs) ≡ map needed (filter is_defined vs) → map needs (spots_from (id + 1) next vs) ≡ map needed (filter is_defined vs) → map needs (cond b (spot_of a id next v ∷ spots_from (id + 1) (behind (spot_of a id next v)) vs) (spots_from (id + 1) next vs)) ≡ map needed (cond b (v ∷ filter is_defined vs) (filter is_defined vs))
      go true with_it without = ap (λ l. needed v ∷ l) with_it
      go false with_it without = without

  -- each has a fact that its variable has
  pub spots_have : (P : ℕ → Variable → Type 0) (Q : Spot → Type 0) → ((n next : ℕ) (v : Variable) → is_defined v ≡ true → P n v → Q (spot_of a n next v)) → (id next : ℕ) (vs : List Variable)
      → ((k n : ℕ) (v : Variable) → n ≡ id + k → slice_get vs k ≡ Some v → P n v) → AllByRecursion Q (spots_from id next vs)
  spots_have P Q has id next [] h = tt
  spots_have P Q has id next (v ∷ vs) h =
      let later : (k n : ℕ) (w : Variable) → n ≡ id + 1 + k → slice_get vs k ≡ Some w → P n w = λ k n w e at. h (suc k) n w (one_later id k n e) at in
      go (is_defined v) refl (spots_have P Q has (id + 1) (behind (spot_of a id next v)) vs later) (spots_have P Q has (id + 1) next vs later)
    where
      here : P id v
      here = let same : id ≡ id + 0 = omega arith in h 0 id v same refl

      go : (b : Bool) → is_defined v ≡ b → AllByRecursion Q (spots_from (id + 1) (behind (spot_of a id next v)) vs) → AllByRecursion Q (spots_from (id + 1) next vs) → AllByRecursion Q (cond b (spot_of a id next v ∷ spots_from (id + 1) (behind (spot_of a id next v)) vs) (spots_from (id + 1) next vs))
      go true is with_it without = (has id next v is here, with_it)
      go false is with_it without = without

  pub spots_mapped : {B : Type 0} (f : Spot → B) (g : Variable → B) → (id next : ℕ) (vs : List Variable)
      → ((k n next : ℕ) (v : Variable) → n ≡ id + k → slice_get vs k ≡ Some v → f (spot_of a n next v) ≡ g v) → map f (spots_from id next vs) ≡ map g (filter is_defined vs)
  spots_mapped f g id next [] h = refl
  spots_mapped f g id next (v ∷ vs) h =
      let later : (k n next : ℕ) (w : Variable) → n ≡ id + 1 + k → slice_get vs k ≡ Some w → f (spot_of a n next w) ≡ g w = λ k n next w e at. h (suc k) n next w (one_later id k n e) at in
      go (is_defined v) (spots_mapped f g (id + 1) (behind (spot_of a id next v)) vs later) (spots_mapped f g (id + 1) next vs later)
    where
      here : f (spot_of a id next v) ≡ g v
      here = let same : id ≡ id + 0 = omega arith in h 0 id next v same refl

      go : (b : Bool) → map f (spots_from (id + 1) (behind (spot_of a id next v)) vs) ≡ map g (filter is_defined vs) → map f (spots_from (id + 1) next vs) ≡ map g (filter is_defined vs) → map f (cond b (spot_of a id next v ∷ spots_from (id + 1) (behind (spot_of a id next v)) vs) (spots_from (id + 1) next vs)) ≡ map g (cond b (v ∷ filter is_defined vs) (filter is_defined vs))
      go true with_it without = ap₂ (λ x l. x ∷ l) here with_it
      go false with_it without = without

  pub spots_start : (row_of : Variable → Symbol × Room) → ((v : Variable) → (row_of v).1 ≡ record { size = size_of a v; alignment = align_of a v }) → (id next : ℕ) (vs : List Variable)
      → map {B = ℕ} (λ (s : Spot). s.start) (spots_from id next vs) ≡ map {B = ℕ} (λ (r : Symbol × ℕ). r.1) (placed_from next (map row_of (filter is_defined vs)))
  spots_start row_of is id next [] = refl
  spots_start row_of is id next (v ∷ vs) = go (is_defined v) (spots_start row_of is (id + 1) (behind (spot_of a id next v)) vs) (spots_start row_of is (id + 1) next vs)
    where
      S : Room → List ℕ
      S r = next_multiple_of next r.alignment ∷ map {B = ℕ} (λ (q : Symbol × ℕ). q.1) (placed_from (next_multiple_of next r.alignment + r.size + 16) (map row_of (filter is_defined vs)))

      Starts : ℕ → Type 0
      Starts at = map {B = ℕ} (λ (s : Spot). s.start) (spots_from (id + 1) at vs) ≡ map {B = ℕ} (λ (r : Symbol × ℕ). r.1) (placed_from at (map row_of (filter is_defined vs)))

      go : (b : Bool) → Starts (behind (spot_of a id next v)) → Starts next → map {B = ℕ} (λ (s : Spot). s.start) (cond b (spot_of a id next v ∷ spots_from (id + 1) (behind (spot_of a id next v)) vs) (spots_from (id + 1) next vs))
          ≡ map {B = ℕ} (λ (r : Symbol × ℕ). r.1) (placed_from next (map row_of (cond b (v ∷ filter is_defined vs) (filter is_defined vs))))
      go true with_it without = ap (λ l. next_multiple_of next (align_of a v) ∷ l) with_it ∙ ap S (sym (is v))
      go false with_it without = without

-- ---- rows of unlike symbols

abbrev pub Row : Type 0
Row = Symbol × Room

abbrev pub AreUnlike : List Row → Type 0
AreUnlike [] = ⊤
AreUnlike (r ∷ rows) = AllByRecursion (λ (q : Row). same_symbol r.0 q.0 ≡ false) rows × AreUnlike rows

pub unlike_turned : (s t : Symbol) → same_symbol s t ≡ false → same_symbol t s ≡ false
unlike_turned s t h = go (same_symbol t s) refl
  where
    never : same_symbol s s ≡ false → ⊥
    never f = true≢false (sym (symbol_self s) ∙ f)

    go : (b : Bool) → same_symbol t s ≡ b → same_symbol t s ≡ false
    go false q = q
    go true q = absurd (never (subst (λ (z : Symbol). same_symbol s z ≡ false) (symbol_exact t s q) h))

map_same : {A B : Type 0} (f g : A → B) (xs : List A) → AllByRecursion (λ x. f x ≡ g x) xs → map f xs ≡ map g xs
map_same f g [] h = refl
map_same f g (x ∷ xs) h = ap₂ (λ y l. y ∷ l) h.0 (map_same f g xs h.1)

-- each is found where it was put
pub found_starts : (next : ℕ) (rows : List Row) (others : List (Symbol × ℕ)) → AreUnlike rows
    → map {B = ℕ} (λ (row : Row). unwrap_or (lookup (same_symbol row.0) (placed_from next rows ++ others)) 0) rows ≡ map {B = ℕ} (λ (r : Symbol × ℕ). r.1) (placed_from next rows)
found_starts next [] others h = refl
found_starts next (r ∷ rows) others h =
    ap₂ (λ x l. x ∷ l)
    (ap (λ o. unwrap_or o 0) (cond-true (same_symbol r.0 r.0) (Some (next_multiple_of next r.1.alignment)) (lookup (same_symbol r.0) (placed_from after rows ++ others)) (symbol_self r.0)))
    (map_same (λ (row : Row). unwrap_or (lookup (same_symbol row.0) (placed_from next (r ∷ rows) ++ others)) 0) (λ (row : Row). unwrap_or (lookup (same_symbol row.0) (placed_from after rows ++ others)) 0) rows (passed rows h.0)
    ∙ found_starts after rows others h.1)
  where
    after : ℕ
    after = next_multiple_of next r.1.alignment + r.1.size + 16

    passed : (qs : List Row) → AllByRecursion (λ (q : Row). same_symbol r.0 q.0 ≡ false) qs
        → AllByRecursion (λ (row : Row). unwrap_or (lookup (same_symbol row.0) (placed_from next (r ∷ rows) ++ others)) 0 ≡ unwrap_or (lookup (same_symbol row.0) (placed_from after rows ++ others)) 0) qs
    passed [] k = tt
    passed (q ∷ qs) k = (
      ap (λ o. unwrap_or o 0) (cond-false (same_symbol q.0 r.0) (Some (next_multiple_of next r.1.alignment)) (lookup (same_symbol q.0) (placed_from after rows ++ others)) (unlike_turned r.0 q.0 k.0)),
      passed qs k.1,
    )

place_of : (rows : List Row) (k : ℕ) (row : Row) → AreUnlike rows → slice_get rows k ≡ Some row → (position_or_len (λ (r : Row). same_symbol row.0 r.0) rows ≡ k) × (k < length rows)
place_of [] k row h at = cc
place_of (r ∷ rows) zero row h at =
    let is : r ≡ row = same_Some r row at in (
      ap (λ b. cond (not b) (1 + position_or_len (λ (r : Row). same_symbol row.0 r.0) rows) 0) (subst (λ (z : Row). same_symbol row.0 z.0 ≡ true) (sym is) (symbol_self row.0)),
      omega arith,
    )
place_of (r ∷ rows) (suc k) row h at =
    let more = place_of rows k row h.1 at in
    let count = more.0 in
    let below = more.1 in
    let next : 1 + position_or_len (λ (r : Row). same_symbol row.0 r.0) rows ≡ suc k = omega (arith, count) in (
      ap (λ b. cond (not b) (1 + position_or_len (λ (r : Row). same_symbol row.0 r.0) rows) 0) (unlike_turned r.0 row.0 (unlike_at rows k row h.0 at)) ∙ next,
      omega (arith, below),
    )
  where
    unlike_at : (qs : List Row) (j : ℕ) (q : Row) → AllByRecursion (λ (q : Row). same_symbol r.0 q.0 ≡ false) qs → slice_get qs j ≡ Some q → same_symbol r.0 q.0 ≡ false
    unlike_at [] j q h at = cc
    unlike_at (p ∷ qs) zero q h at = subst (λ (z : Row). same_symbol r.0 z.0 ≡ false) (same_Some p q at) h.0
    unlike_at (p ∷ qs) (suc j) q h at = unlike_at qs j q h.1 at

-- the place of a row
pub row_place : (rows : List Row) (k : ℕ) (row : Row) → AreUnlike rows → slice_get rows k ≡ Some row → position (λ (r : Row). same_symbol row.0 r.0) rows ≡ Some k
row_place rows k row h at =
    let p = place_of rows k row h at in
    ap (λ n. cond (nat_lt n (length rows)) (Some n) None) p.0 ∙ cond-true (nat_lt k (length rows)) (Some k) None (lt-ltb k (length rows) p.1)

-- a kept element stands where as many before it are kept
pub kept_at : {A : Type 0} (p : A → Bool) (xs : List A) (n : ℕ) (x : A) → slice_get xs n ≡ Some x → p x ≡ true → slice_get (filter p xs) (length (filter p (take n xs))) ≡ Some x
kept_at p [] n x at h = cc
kept_at p (y ∷ xs) zero x at h =
    let is : y ≡ x = same_Some y x at in
    ap (λ l. slice_get l 0) (cond-true (p y) (y ∷ filter p xs) (filter p xs) (ap p is ∙ h)) ∙ ap (λ z. Some z) is
kept_at p (y ∷ xs) (suc n) x at h = go (p y) (kept_at p xs n x at h)
  where
    go : (b : Bool) → slice_get (filter p xs) (length (filter p (take n xs))) ≡ Some x → slice_get (cond b (y ∷ filter p xs) (filter p xs)) (length (cond b (y ∷ filter p (take n xs)) (filter p (take n xs)))) ≡ Some x
    go true e = e
    go false e = e

pub all_kept_have : {A : Type 0} (P : A → Type 0) (p : A → Bool) (xs : List A) → AllByRecursion (λ x. p x ≡ true → P x) xs → AllByRecursion P (filter p xs)
all_kept_have P p [] h = tt
all_kept_have P p (x ∷ xs) h = go (p x) refl (all_kept_have P p xs h.1)
  where
    go : (b : Bool) → p x ≡ b → AllByRecursion P (filter p xs) → AllByRecursion P (cond b (x ∷ filter p xs) (filter p xs))
    go true e more = (h.0 e, more)
    go false e more = more

pub same_maps : {A B : Type 0} (f g : A → B) (xs : List A) → AllByRecursion (λ x. f x ≡ g x) xs → map f xs ≡ map g xs
same_maps f g xs h = map_same f g xs h
