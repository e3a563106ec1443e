-- Variables that are put one behind another lie where they are defined to lie.
use Rattle.std.proofs.Common.{◌≡◌, ◌⊎◌, inl, inr, ℕ, ◌+◌, ◌-◌, ◌^◌, ◌%◌, ◌≤◌, ◌<◌, Bool, true, false, cond, List, [], ◌∷◌, ◌++◌, map, filter, take, Option, Some, None, refl, sym, ap, ap₂, ◌∙◌, subst, arith, leb, append-nil}
use Rattle.std.specs.Prelude.{slice_get, filter_map, min}
use Rattle.std.specs.Int.{next_multiple_of}
use Rattle.std.specs.Option.{option_map}
use Rattle.std.proofs.lemmas.Bool.{cond-true, cond-false}
use Rattle.std.proofs.lemmas.Bool.Decides.{leb_tells}
use Rattle.std.proofs.lemmas.Option.{same_Some}
use Rattle.std.proofs.Math.Nat.{min-eq_left, min-eq_right}
use Rattle.module_arena.specs.Module.{Module}
use Rattle.linkage_rules.specs.declared.symbol.Symbol.{Symbol}
use Rattle.linkage_rules.specs.declared.symbol.SymbolKind.TheVariants as kind
use Rattle.linkage_rules.specs.Grouped.{kind_of, same_kind}
use Rattle.linkage_rules.specs.Addresses.{Room, room, rooms, placed_from}
use Rattle.linkage_rules.specs.Symbols.{symbols}
use Rattle.linkage_rules.proofs.Filed.{map_joined}
use Rattle.linkage_rules.proofs.KindsAmong.{variables_among}
use Rattle.linkage_rules.proofs.Steps.{take_more}
use Rattle.linkage_rules.specs.declared.resolving.room.Room as the_room
use Rattle.linkage_rules.specs.declared.resolving.standing.PlacedVariable.{PlacedVariable}
use Rattle.linkage_rules.specs.Resolving.Places.{clamped, room_told, variable_room, row, rows_among, ArePlaced}

-- NUMBERS

-- what is at least the greatest number is that number
over : (m x : ℕ) → m ≤ x → min x m ≡ m
over m x h = min-eq_right h

-- a number that was cut already, with more
min_more : (m n k : ℕ) → min (min n m + k) m ≡ min (n + k) m
min_more m n k = by (leb_tells n m)
  where
    by : ((leb n m ≡ true) × (n ≤ m)) ⊎ ((leb n m ≡ false) × (m < n)) → min (min n m + k) m ≡ min (n + k) m
    by (inl h) = ap (λ x. min (x + k) m) (min-eq_left h.1)
    by (inr h) =
        let far = h.1 in
        ap (λ x. min (x + k) m) (over m n (omega (arith, far))) ∙ over m (m + k) (omega arith) ∙ sym (over m (n + k) (omega (arith, far)))

min_sum : (m n s : ℕ) → min (min n m + min s m + 16) m ≡ min (n + s + 16) m
min_sum m n s =
    ap (λ x. min x m) (swapped (min n m) (min s m)) ∙ min_more m s (min n m + 16) ∙ ap (λ x. min x m) (plain s (min n m)) ∙ min_more m n (s + 16) ∙ ap (λ x. min x m) (summed n s)
  where
    swapped : (a b : ℕ) → a + b + 16 ≡ b + (a + 16)
    swapped a b = omega arith

    plain : (a b : ℕ) → a + (b + 16) ≡ b + (a + 16)
    plain a b = omega arith

    summed : (a b : ℕ) → a + (b + 16) ≡ a + b + 16
    summed a b = omega arith

min_multiple : (m n a : ℕ) → min (next_multiple_of (min n m) a) m ≡ min (next_multiple_of n a) m
min_multiple m n a = by (leb_tells n m)
  where
    above : (x k : ℕ) → m ≤ x → min (x + k) m ≡ m
    above x k h = over m (x + k) (omega (arith, h))

    by : ((leb n m ≡ true) × (n ≤ m)) ⊎ ((leb n m ≡ false) × (m < n)) → min (next_multiple_of (min n m) a) m ≡ min (next_multiple_of n a) m
    by (inl h) = ap (λ x. min (next_multiple_of x a) m) (min-eq_left h.1)
    by (inr h) =
        let far = h.1 in
        ap (λ x. min (next_multiple_of x a) m) (over m n (omega (arith, far))) ∙ above m ((a - m % a) % a) (omega arith) ∙ sym (above n ((a - n % a) % a) (omega (arith, far)))

-- each number is a multiple of no alignment
pub no_multiple : (m n : ℕ) → n ≤ m → n ≡ min (next_multiple_of n 0) m
no_multiple m n h =
    let nothing : 0 - n % 0 ≡ 0 = omega arith in
    sym (ap (λ x. min (n + x % 0) m) nothing ∙ ap (λ x. min x m) plain ∙ min-eq_left h)
  where
    plain : n + 0 ≡ n
    plain = omega arith

-- ONE BEHIND ANOTHER

-- where the next variable can lie behind these
abbrev pub next_from : ℕ → List (Symbol × Room) → ℕ
next_from next [] = next
next_from next (row ∷ rows) = next_from (next_multiple_of next row.1.alignment + row.1.size + 16) rows

placed_more : (next : ℕ) (rows : List (Symbol × Room)) (row : Symbol × Room) → placed_from next (rows ++ row ∷ []) ≡ placed_from next rows ++ (row.0, next_multiple_of (next_from next rows) row.1.alignment) ∷ []
placed_more next [] row = refl
placed_more next (r ∷ rows) row = ap (λ l. (r.0, next_multiple_of next r.1.alignment) ∷ l) (placed_more (next_multiple_of next r.1.alignment + r.1.size + 16) rows row)

next_more : (next : ℕ) (rows : List (Symbol × Room)) (row : Symbol × Room) → next_from next (rows ++ row ∷ []) ≡ next_multiple_of (next_from next rows) row.1.alignment + row.1.size + 16
next_more next [] row = refl
next_more next (r ∷ rows) row = next_more (next_multiple_of next r.1.alignment + r.1.size + 16) rows row

-- the variables of some rows, and where the next can lie
pub record ArePut (rows : List (Symbol × Room)) (variables : List PlacedVariable) (next : ℕ) : Type 0 where
  pub placed : ArePlaced rows variables
  pub behind : next ≡ clamped (next_from 65536 rows)

pub none_put : (variables : List PlacedVariable) → variables ≡ [] → ArePut [] variables 65536
none_put variables none = record {
  placed = record {
    rooms = ap (map {B = Symbol × the_room.Room} (λ (v : PlacedVariable). (v.symbol, v.room))) none;
    addresses = ap (map {B = Symbol × ℕ} (λ (v : PlacedVariable). (v.symbol, v.address))) none;
  };
  behind = refl;
}

end_same : {A : Type 0} (xs ys : List A) (x y : A) → xs ≡ ys → x ≡ y → xs ++ x ∷ [] ≡ ys ++ y ∷ []
end_same xs ys x y p q = ap₂ (λ l e. l ++ e ∷ []) p q

module _ (rows : List (Symbol × Room)) (variables : List PlacedVariable) (next address after : ℕ) (s : Symbol) (r : Room) (put : ArePut rows variables next) where
  abbrev one : PlacedVariable
  one = record { symbol = s; room = room_told r; address = address }

  abbrev room_row : PlacedVariable → Symbol × the_room.Room
  room_row v = (v.symbol, v.room)

  abbrev told_room : Symbol × Room → Symbol × the_room.Room
  told_room q = (q.0, room_told q.1)

  abbrev address_row : PlacedVariable → Symbol × ℕ
  address_row v = (v.symbol, v.address)

  abbrev told_address : Symbol × ℕ → Symbol × ℕ
  told_address q = (q.0, clamped q.1)

  abbrev multiple : ℕ
  multiple = next_multiple_of (next_from 65536 rows) r.alignment

  at_multiple : address ≡ clamped (next_multiple_of next r.alignment) → address ≡ clamped multiple
  at_multiple at = at ∙ ap (λ n. clamped (next_multiple_of n r.alignment)) put.behind ∙ min_multiple (2 ^ 64 - 1) (next_from 65536 rows) r.alignment

  its_rooms : map room_row (variables ++ one ∷ []) ≡ map told_room (rows ++ (s, r) ∷ [])
  its_rooms =
      map_joined room_row variables (one ∷ []) ∙ ap (λ l. l ++ room_row one ∷ []) put.placed.rooms ∙ sym (map_joined told_room rows ((s, r) ∷ []))

  its_addresses : address ≡ clamped multiple → map address_row (variables ++ one ∷ []) ≡ map told_address (placed_from 65536 (rows ++ (s, r) ∷ []))
  its_addresses there =
      map_joined address_row variables (one ∷ [])
      ∙ end_same (map address_row variables) (map told_address (placed_from 65536 rows)) (address_row one) (told_address (s, multiple)) put.placed.addresses (λ j. (s, there j))
      ∙ sym (map_joined told_address (placed_from 65536 rows) ((s, multiple) ∷ [])) ∙ ap (map told_address) (sym (placed_more 65536 rows (s, r)))

  pub one_put : address ≡ clamped (next_multiple_of next r.alignment) → after ≡ clamped (address + clamped r.size + 16) → ArePut (rows ++ (s, r) ∷ []) (variables ++ one ∷ []) after
  one_put at is =
      let there = at_multiple at in
      record {
        placed = record { rooms = its_rooms; addresses = its_addresses there };
        behind = is ∙ ap (λ n. clamped (n + clamped r.size + 16)) there ∙ min_sum (2 ^ 64 - 1) multiple r.size ∙ ap clamped (sym (next_more 65536 rows (s, r)));
      }

-- THE ROWS OF SYMBOLS

module _ {A B : Type 0} (f : A → Option B) where
  given_joined : (xs ys : List A) → filter_map f (xs ++ ys) ≡ filter_map f xs ++ filter_map f ys
  given_joined [] ys = refl
  given_joined (x ∷ xs) ys = go (f x) refl (given_joined xs ys)
    where
      go : (o : Option B) → f x ≡ o → filter_map f (xs ++ ys) ≡ filter_map f xs ++ filter_map f ys → filter_map f (x ∷ xs ++ ys) ≡ filter_map f (x ∷ xs) ++ filter_map f ys
      go None t h = rw t h
      go (Some b) t h = rw t (ap (λ l. b ∷ l) h)

  given_none : (x : A) → f x ≡ None → filter_map f (x ∷ []) ≡ []
  given_none x t = rw t refl

  given_some : (x : A) (b : B) → f x ≡ Some b → filter_map f (x ∷ []) ≡ b ∷ []
  given_some x b t = rw t refl

  -- what gives something only where a test passes
  given_kept : (g : A → Option B) (p : A → Bool) → ((x : A) → p x ≡ true → f x ≡ g x) → ((x : A) → p x ≡ false → f x ≡ None) → (xs : List A) → filter_map f xs ≡ filter_map g (filter p xs)
  given_kept g p same other [] = refl
  given_kept g p same other (x ∷ xs) = go (p x) refl (given_kept g p same other xs)
    where
      both : (o : Option B) → f x ≡ o → g x ≡ o → filter_map f xs ≡ filter_map g (filter p xs) → filter_map f (x ∷ xs) ≡ filter_map g (x ∷ filter p xs)
      both None t u e = rw t (rw u e)
      both (Some b) t u e = rw t (rw u (ap (λ l. b ∷ l) e))

      go : (c : Bool) → p x ≡ c → filter_map f xs ≡ filter_map g (filter p xs) → filter_map f (x ∷ xs) ≡ filter_map g (cond c (x ∷ filter p xs) (filter p xs))
      go true h e = both (g x) (same x h) refl e
      go false h e = rw (other x h) e

module _ (parts : List Module) where
  abbrev row_of : Symbol → Option (Symbol × Room)
  row_of s = row s (variable_room parts s)

  module _ (ss : List Symbol) (k : ℕ) (s : Symbol) (at : slice_get ss k ≡ Some s) where
    row_next : rows_among parts (take (k + 1) ss) ≡ rows_among parts (take k ss) ++ rows_among parts (s ∷ [])
    row_next = ap (rows_among parts) (take_more ss k s at) ∙ given_joined row_of (take k ss) (s ∷ [])

    -- a symbol of no room
    pub none_more : (variables : List PlacedVariable) (next : ℕ) → None ≡ option_map room_told (variable_room parts s) → ArePut (rows_among parts (take k ss)) variables next → ArePut (rows_among parts (take (k + 1) ss)) variables next
    none_more variables next is put = by (variable_room parts s) refl is
      where
        by : (o : Option Room) → variable_room parts s ≡ o → None ≡ option_map room_told o → ArePut (rows_among parts (take (k + 1) ss)) variables next
        by None h e = subst (λ rows. ArePut rows variables next) (sym (row_next ∙ ap (λ l. rows_among parts (take k ss) ++ l) (given_none row_of s (ap (row s) h)) ∙ append-nil _)) put
        by (Some r) h e = cc

    -- a symbol with its room
    pub some_more : (variables after : List PlacedVariable) (next address behind : ℕ) (room : the_room.Room) → Some room ≡ option_map room_told (variable_room parts s) → ArePut (rows_among parts (take k ss)) variables next
        → address ≡ clamped (next_multiple_of next room.alignment) → behind ≡ clamped (address + room.size + 16) → after ≡ variables ++ record { symbol = s; room = room; address = address } ∷ [] → ArePut (rows_among parts (take (k + 1) ss)) after behind
    some_more variables after next address behind room is put lies ends pushed = by (variable_room parts s) refl is
      where
        by : (o : Option Room) → variable_room parts s ≡ o → Some room ≡ option_map room_told o → ArePut (rows_among parts (take (k + 1) ss)) after behind
        by None h e = cc
        by (Some r) h e =
            let told : room ≡ room_told r = same_Some room (room_told r) e in
            subst (λ rows. ArePut rows after behind) (sym (row_next ∙ ap (λ l. rows_among parts (take k ss) ++ l) (given_some row_of s (s, r) (ap (row s) h))))
            (subst (λ vs. ArePut (rows_among parts (take k ss) ++ (s, r) ∷ []) vs behind) (sym (pushed ∙ ap (λ (x : the_room.Room). variables ++ record { symbol = s; room = x; address = address } ∷ []) told))
            (one_put (rows_among parts (take k ss)) variables next address behind s r put (lies ∙ ap (λ (x : the_room.Room). clamped (next_multiple_of next x.alignment)) told) (ends ∙ ap (λ (x : the_room.Room). clamped (address + x.size + 16)) told)))

  rows_kept : (ss : List Symbol) → rows_among parts ss ≡ filter_map (λ s. row s (room parts s)) (filter (λ s. same_kind kind.Variable (kind_of parts s)) ss)
  rows_kept =
      given_kept row_of (λ s. row s (room parts s)) (λ s. same_kind kind.Variable (kind_of parts s)) (λ s h. ap (row s) (cond-true (same_kind kind.Variable (kind_of parts s)) _ _ h))
      (λ s h. ap (row s) (cond-false (same_kind kind.Variable (kind_of parts s)) _ _ h))

  -- those of all symbols are those of the variables
  pub all_rows : (ss : List Symbol) → ss ≡ symbols parts → rows_among parts ss ≡ rooms parts
  all_rows ss is = ap (rows_among parts) is ∙ rows_kept (symbols parts) ∙ ap (filter_map (λ s. row s (room parts s))) (variables_among parts)
