-- The definition that counts, among those of two lists: the better of the two that count in each.
use Rattle.std.proofs.Common.{◌≡◌, ℕ, Bool, true, false, ◌&&◌, ◌||◌, List, [], ◌∷◌, ◌++◌, map, Option, Some, None, refl, sym, ap, ap₂, ◌∙◌, subst, option_map, nat_lt, nat_eq, arith}
use Rattle.std.specs.Prelude.{if◌then◌else◌}
use Rattle.std.specs.List.{AllByRecursion}
use Rattle.std.proofs.lemmas.Bool.{cond-true, cond-false, or_parts}
use Rattle.std.proofs.lemmas.Bool.Decides.{nat_tests}
use Rattle.std.proofs.lemmas.Option.{same_Some}
use Rattle.ir_tables.specs.declared.linkage.Linkage.{Linkage}
use Rattle.ir_tables.specs.declared.linkage.Linkage.TheVariants.{External, Private, Internal, AvailableExternally, Linkonce, LinkonceOdr, Weak, WeakOdr, Common, Appending, ExternWeak}
use Rattle.module_arena.specs.Module.{Module}
use Rattle.linkage_rules.specs.Entries.{Entry}
use Rattle.linkage_rules.specs.Globals.{linkage_of}
use Rattle.linkage_rules.specs.Linkages.{is_common, rank}
use Rattle.linkage_rules.specs.Winner.{bytes_of, gives_way, better, best}
use Rattle.linkage_rules.proofs.Entries.{all_follow}
use Rattle.link_rules.proofs.Symbols.{best_has}

-- ---- weights

-- a common definition is one of rank 3
common_rank : (l : Linkage) → is_common l ≡ nat_eq (rank l) 3
common_rank External = refl
common_rank Private = refl
common_rank Internal = refl
common_rank AvailableExternally = refl
common_rank Linkonce = refl
common_rank LinkonceOdr = refl
common_rank Weak = refl
common_rank WeakOdr = refl
common_rank Common = refl
common_rank Appending = refl
common_rank ExternWeak = refl

-- whether a definition of rank r and size s gives way to one of rank q and size t
abbrev outweighs : (r s q t : ℕ) → Bool
outweighs r s q t = nat_lt r q || (nat_eq r 3 && nat_eq q 3 && nat_lt s t)

outweighs_through : (r s q t p u : ℕ) → outweighs r s q t ≡ true → outweighs q t p u ≡ true
    → outweighs r s p u ≡ true
outweighs_through r s q t p u h k = grind (arith, nat_tests)

outweighs_back : (r s q t p u : ℕ) → outweighs r s q t ≡ false → outweighs q t p u ≡ false
    → outweighs r s p u ≡ false
outweighs_back r s q t p u h k = grind (arith, nat_tests)

-- ---- the better of two

module _ (parts : List Module) where
  abbrev weight : Entry → ℕ
  weight e = rank (linkage_of e.global)

  abbrev heft : Entry → ℕ
  heft e = bytes_of parts e.part e.global

  as_weights : (x y : Entry)
      → gives_way parts x y ≡ outweighs (weight x) (heft x) (weight y) (heft y)
  as_weights x y =
      ap₂ (λ b c. nat_lt (weight x) (weight y) || (b && c && nat_lt (heft x) (heft y)))
      (common_rank (linkage_of x.global)) (common_rank (linkage_of y.global))

  through : (x y z : Entry) → gives_way parts x y ≡ true → gives_way parts y z ≡ true
      → gives_way parts x z ≡ true
  through x y z h k =
      as_weights x z
      ∙ outweighs_through (weight x) (heft x) (weight y) (heft y) (weight z) (heft z)
      (sym (as_weights x y) ∙ h) (sym (as_weights y z) ∙ k)

  back : (x y z : Entry) → gives_way parts x y ≡ false → gives_way parts y z ≡ false
      → gives_way parts x z ≡ false
  back x y z h k =
      as_weights x z
      ∙ outweighs_back (weight x) (heft x) (weight y) (heft y) (weight z) (heft z)
      (sym (as_weights x y) ∙ h) (sym (as_weights y z) ∙ k)

  -- the better of the best of some entries and the best of later ones
  abbrev pub better_of : Option Entry → Option Entry → Option Entry
  better_of None later = later
  better_of (Some e) later = better parts e later

  some_alone : (b : Bool) (x y : Entry)
      → better_of (if b then Some y else Some x) None ≡ (if b then Some y else Some x)
  some_alone true x y = refl
  some_alone false x y = refl

  of_three : (x y z : Entry) (b c : Bool) → gives_way parts x y ≡ b → gives_way parts y z ≡ c
      → better parts x (if c then Some z else Some y)
      ≡ better_of (if b then Some y else Some x) (Some z)
  of_three x y z true true h k = cond-true (gives_way parts x z) _ _ (through x y z h k)
      ∙ sym (cond-true (gives_way parts y z) _ _ k)
  of_three x y z true false h k = cond-true (gives_way parts x y) _ _ h
      ∙ sym (cond-false (gives_way parts y z) _ _ k)
  of_three x y z false true h k = refl
  of_three x y z false false h k = cond-false (gives_way parts x y) _ _ h
      ∙ sym (cond-false (gives_way parts x z) _ _ (back x y z h k))

  better_joined : (x : Entry) (o later : Option Entry)
      → better parts x (better_of o later) ≡ better_of (better parts x o) later
  better_joined x None later = refl
  better_joined x (Some y) None = sym (some_alone (gives_way parts x y) x y)
  better_joined x (Some y) (Some z) =
      of_three x y z (gives_way parts x y) (gives_way parts y z) refl refl

  pub best_joined : (xs ys : List Entry)
      → best parts (xs ++ ys) ≡ better_of (best parts xs) (best parts ys)
  best_joined [] ys = refl
  best_joined (x ∷ xs) ys = ap (better parts x) (best_joined xs ys)
      ∙ better_joined x (best parts xs) (best parts ys)

-- ---- entries of other parts

-- an entry of other parts that counts as one of these does
pub record CountsAs (new old : List Module) (d e : Entry) : Type 0 where
  pub linkage : linkage_of d.global ≡ linkage_of e.global
  pub bytes : is_common (linkage_of e.global) ≡ true
      → bytes_of new d.part d.global ≡ bytes_of old e.part e.global

module _ (new old : List Module) where
  gives_alike : (c d x y : Entry) → CountsAs new old c x → CountsAs new old d y
      → gives_way new c d ≡ gives_way old x y
  gives_alike c d x y p q =
      (λ i. nat_lt (rank (p.linkage i)) (rank (q.linkage i)) ||
      (is_common (p.linkage i) && is_common (q.linkage i) && nat_lt
      (bytes_of new c.part c.global) (bytes_of new d.part d.global)))
      ∙ ap (λ b. nat_lt (rank (linkage_of x.global)) (rank (linkage_of y.global)) || b)
      (go (is_common (linkage_of x.global)) (is_common (linkage_of y.global)) p.bytes q.bytes)
    where
      go : (b e : Bool) → (b ≡ true → bytes_of new c.part c.global ≡ bytes_of old x.part x.global)
          → (e ≡ true → bytes_of new d.part d.global ≡ bytes_of old y.part y.global)
          → (b && e && nat_lt (bytes_of new c.part c.global) (bytes_of new d.part d.global))
          ≡ (b && e && nat_lt (bytes_of old x.part x.global) (bytes_of old y.part y.global))
      go true true f g = ap₂ nat_lt (f refl) (g refl)
      go true false f g = refl
      go false e f g = refl

  module _ (move : Entry → Entry) where
    abbrev Moves : Entry → Type 0
    Moves e = CountsAs new old (move e) e

    better_moved : (x : Entry) (o : Option Entry) → Moves x → ((y : Entry) → o ≡ Some y → Moves y)
        → better new (move x) (option_map move o) ≡ option_map move (better old x o)
    better_moved x None p f = refl
    better_moved x (Some y) p f =
        ap (λ b. if b then Some (move y) else Some (move x))
        (gives_alike (move x) (move y) x y p (f y refl)) ∙ go (gives_way old x y)
      where
        go : (b : Bool)
            → (if b then Some (move y) else Some (move x))
            ≡ option_map move (if b then Some y else Some x)
        go true = refl
        go false = refl

    pub best_moved : (xs : List Entry) → AllByRecursion Moves xs
        → best new (map move xs) ≡ option_map move (best old xs)
    best_moved [] all = refl
    best_moved (x ∷ xs) all =
        ap (better new (move x)) (best_moved xs all.1)
        ∙ better_moved x (best old xs) all.0 (λ y h. best_has old Moves xs y all.1 h)

  -- the better of two, of which the first may be moved otherwise than the second
  pub better_apart : (one other both : Entry → Entry) (o later : Option Entry)
      → ((x : Entry) → o ≡ Some x → CountsAs new old (one x) x × (one x ≡ both x))
      → ((y : Entry) → later ≡ Some y → CountsAs new old (other y) y × (other y ≡ both y))
      → better_of new (option_map one o) (option_map other later)
      ≡ option_map both (better_of old o later)
  better_apart one other both None None f g = refl
  better_apart one other both None (Some y) f g = ap Some (g y refl).1
  better_apart one other both (Some x) None f g = ap Some (f x refl).1
  better_apart one other both (Some x) (Some y) f g =
      ap (λ b. if b then Some (other y) else Some (one x))
      (gives_alike (one x) (other y) x y (f x refl).0 (g y refl).0)
      ∙ ap₂ (λ d c. if gives_way old x y then Some d else Some c) (g y refl).1 (f x refl).1
      ∙ go (gives_way old x y)
    where
      go : (b : Bool)
          → (if b then Some (both y) else Some (both x))
          ≡ option_map both (if b then Some y else Some x)
      go true = refl
      go false = refl

pub best_same : (new old : List Module) (xs : List Entry)
    → AllByRecursion (λ e. CountsAs new old e e) xs → best new xs ≡ best old xs
best_same new old xs all = sym (ap (best new) (map_same xs)) ∙ best_moved new old (λ e. e) xs all
    ∙ option_same (best old xs)
  where
    map_same : (ys : List Entry) → map (λ e. e) ys ≡ ys
    map_same [] = refl
    map_same (y ∷ ys) = ap (λ l. y ∷ l) (map_same ys)

    option_same : (o : Option Entry) → option_map (λ e. e) o ≡ o
    option_same None = refl
    option_same (Some e) = refl

-- no rank is greater
rank_most : (l : Linkage) → nat_lt 4 (rank l) ≡ false
rank_most External = refl
rank_most Private = refl
rank_most Internal = refl
rank_most AvailableExternally = refl
rank_most Linkonce = refl
rank_most LinkonceOdr = refl
rank_most Weak = refl
rank_most WeakOdr = refl
rank_most Common = refl
rank_most Appending = refl
rank_most ExternWeak = refl

-- a definition of the greatest rank gives way to none
pub strongest_stays : (ms : List Module) (d y : Entry) → rank (linkage_of d.global) ≡ 4
    → gives_way ms d y ≡ false
strongest_stays ms d y h =
    as_weights ms d y
    ∙ (λ i. outweighs (h i) (heft ms d) (rank (linkage_of y.global)) (heft ms y))
    ∙ ap (λ b. b || false) (rank_most (linkage_of y.global))

pub strongest_first : (ms : List Module) (d : Entry) (o : Option Entry)
    → rank (linkage_of d.global) ≡ 4 → better_of ms (Some d) o ≡ Some d
strongest_first ms d None h = refl
strongest_first ms d (Some y) h = cond-false (gives_way ms d y) _ _ (strongest_stays ms d y h)

-- ---- none outweighs the best

outweighs_none : (r s : ℕ) → outweighs r s r s ≡ false
outweighs_none r s = grind (arith, nat_tests)

outweighs_once : (r s q t : ℕ) → outweighs r s q t ≡ true → outweighs q t r s ≡ false
outweighs_once r s q t h = grind (arith, nat_tests)

module _ (ms : List Module) where
  pub best_empty : (es : List Entry) → best ms es ≡ None → es ≡ []
  best_empty [] h = refl
  best_empty (e ∷ es) h = go (best ms es) h
    where
      by_test : (b : Bool) (y : Entry) → (if b then Some y else Some e) ≡ None → e ∷ es ≡ []
      by_test true y h = cc
      by_test false y h = cc

      go : (o : Option Entry) → better ms e o ≡ None → e ∷ es ≡ []
      go None h = cc
      go (Some y) h = by_test (gives_way ms e y) y h

  abbrev StaysBefore : Entry → Entry → Type 0
  StaysBefore e x = gives_way ms e x ≡ false

  self : (e : Entry) → StaysBefore e e
  self e = as_weights ms e e ∙ outweighs_none (weight ms e) (heft ms e)

  pub best_stays : (es : List Entry) (e : Entry) → best ms es ≡ Some e
      → AllByRecursion (StaysBefore e) es
  best_stays [] e h = tt
  best_stays (x ∷ es) e h = go (best ms es) refl h (best_stays es)
    where
      is_nothing : (o : Option Entry) → best ms es ≡ o → o ≡ None
          → AllByRecursion (StaysBefore e) es
      is_nothing o k n = subst (AllByRecursion (StaysBefore e)) (sym (best_empty es (k ∙ n))) tt

      by_test : (b : Bool) (y : Entry) → gives_way ms x y ≡ b
          → (if b then Some y else Some x) ≡ Some e → AllByRecursion (StaysBefore y) es
          → AllByRecursion (StaysBefore e) (x ∷ es)
      by_test true y t h all =
          let same = same_Some y e h in
          subst (λ d. AllByRecursion (StaysBefore d) (x ∷ es)) same (
            as_weights ms y x
                ∙ outweighs_once (weight ms x) (heft ms x) (weight ms y) (heft ms y)
                (sym (as_weights ms x y) ∙ t),
            all,
          )
      by_test false y t h all =
          let same = same_Some x e h in
          subst (λ d. AllByRecursion (StaysBefore d) (x ∷ es)) same
          (self x, all_follow (StaysBefore y) (StaysBefore x) es (λ z k. back ms x y z t k) all)

      go : (o : Option Entry) → best ms es ≡ o → better ms x o ≡ Some e
          → ((d : Entry) → best ms es ≡ Some d → AllByRecursion (StaysBefore d) es)
          → AllByRecursion (StaysBefore e) (x ∷ es)
      go None k h more = let same =
          same_Some x e h in (subst (λ d. StaysBefore d x) same (self x), is_nothing None k refl)
      go (Some y) k h more = by_test (gives_way ms x y) y refl h (more y k)

  -- so none has a greater rank
  pub best_rank : (e x : Entry) → StaysBefore e x
      → nat_lt (rank (linkage_of e.global)) (rank (linkage_of x.global)) ≡ false
  best_rank e x h =
      (or_parts (nat_lt (rank (linkage_of e.global)) (rank (linkage_of x.global))) _ h).0
