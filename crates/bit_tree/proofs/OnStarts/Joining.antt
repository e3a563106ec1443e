-- Merging from behind: so many rows of two lists are left, and those behind them stand at their places.
use Rattle.std.proofs.Common.{◌≡◌, ℕ, ◌+◌, ◌-◌, ◌<◌, ◌≤◌, List, [], ◌∷◌, ◌++◌, length, take, drop, get_or, sym, ap, ◌∙◌, subst, arith, append_assoc, append-nil, add-zero, take_all, take-append-drop}
use Rattle.std.proofs.Math.ListN.{set}
use Rattle.std.proofs.lemmas.List.{length-set, take_more, take-set-le, drop-set, length-take-le, get_or-take, get_or_default, drop_all}
use Rattle.bit_tree.specs.declared.starts.row.GivenDefinition.{GivenDefinition}
use Rattle.bit_tree.specs.Starts.Rows.{row_id, starts_in, IsAscending}
use Rattle.bit_tree.proofs.OnStarts.StartLists.{starts-append, passed}
use Rattle.bit_tree.proofs.OnStarts.Rising.{joined, upto_last}

-- of the first rows so many are left and of the later ones so many, and all rows together have these starts
pub record IsMerging (all : ℕ → List ℕ) (later rows : List GivenDefinition) (front back : ℕ) : Type 0 where
  pub room : front + back ≤ length rows
  pub behind : back ≤ length later
  pub starts : (id : ℕ) → starts_in (take front rows ++ (take back later ++ drop (front + back) rows)) id ≡ all id
  pub fronts : IsAscending (take front rows ++ drop (front + back) rows)
  pub laters : IsAscending (take back later ++ drop (front + back) rows)

-- the last of the first rows
pub last_of : (rows : List GivenDefinition) (n : ℕ) (d : GivenDefinition) → n ≤ length rows → 0 < n → row_id (get_or (take n rows) (length (take n rows) - 1) d) ≡ row_id (get_or rows (n - 1) d)
last_of rows n d long some = ap row_id (ap (λ (k : ℕ). get_or (take n rows) (k - 1) d) (length-take-le n rows long) ∙ get_or-take n rows (n - 1) d (omega arith))

-- nothing is merged yet
pub merge_none : (later rows : List GivenDefinition) (count : ℕ) → count + length later ≡ length rows → IsAscending (take count rows) → IsAscending later
    → IsMerging (λ id. starts_in (take count rows) id ++ starts_in later id) later rows count (length later)
merge_none later rows count long up rise = record {
  room = omega arith;
  behind = omega arith;
  starts = λ id. ap (λ (l : List GivenDefinition). starts_in l id) together ∙ starts-append (take count rows) later id;
  fronts = subst P (sym (append-nil (take count rows)) ∙ ap (λ (l : List GivenDefinition). take count rows ++ l) (sym none)) up;
  laters = subst P (sym (append-nil later) ∙ (λ i. sym whole i ++ sym none i)) rise;
} where
  P : List GivenDefinition → Type 0
  P l = IsAscending l

  none : drop (count + length later) rows ≡ []
  none = drop_all (count + length later) rows (omega arith)

  whole : take (length later) later ≡ later
  whole = take_all (length later) later (omega arith)

  together : take count rows ++ (take (length later) later ++ drop (count + length later) rows) ≡ take count rows ++ later
  together = ap (λ (l : List GivenDefinition). take count rows ++ l) ((λ i. whole i ++ none i) ∙ append-nil later)

-- all is merged where none of the later rows is left
pub merge_all : (all : ℕ → List ℕ) (later rows : List GivenDefinition) (front back : ℕ) → IsMerging all later rows front back → back ≡ 0 → IsAscending rows × ((id : ℕ) → starts_in rows id ≡ all id)
merge_all all later rows front back m end = (subst P whole last.fronts, λ id. ap (λ (l : List GivenDefinition). starts_in l id) (sym whole) ∙ last.starts id) where
  P : List GivenDefinition → Type 0
  P l = IsAscending l

  last : IsMerging all later rows front 0
  last = subst (λ (n : ℕ). IsMerging all later rows front n) end m

  whole : take front rows ++ drop (front + 0) rows ≡ rows
  whole = rw add-zero (take-append-drop front rows)

-- the last of the first rows goes behind all that are left of the later ones
pub front_step : (all : ℕ → List ℕ) (later rows : List GivenDefinition) (front back f : ℕ) (row last : GivenDefinition) → IsMerging all later rows front back → front ≡ f + 1 → 0 < back
    → row ≡ get_or rows f row → last ≡ get_or later (back - 1) last → row_id last < row_id row → IsMerging all later (set rows (f + back) row) f back
front_step all later rows front back f row last m is some read end great = record {
  room = omega (arith, length-set rows (f + back) row, m.room);
  behind = m.behind;
  starts = λ id. ap (λ (l : List GivenDefinition). starts_in l id) now ∙ (moved id ∙ (ap (λ (l : List GivenDefinition). starts_in l id) (sym before) ∙ m.starts id));
  fronts = subst P (whole ∙ sym fore) m.fronts;
  laters = subst P (sym rear) (joined (take back later) (take f rows) rest row m.laters (subst P whole m.fronts) small);
} where
  P : List GivenDefinition → Type 0
  P l = IsAscending l

  rest : List GivenDefinition
  rest = drop (front + back) rows

  within : f + back < length rows
  within = omega (arith, m.room)

  one : take front rows ≡ take f rows ++ row ∷ []
  one = ap (λ (n : ℕ). take n rows) is ∙ (take_more rows f row (omega arith) ∙ ap (λ (x : GivenDefinition). take f rows ++ x ∷ []) (sym read))

  kept : take f (set rows (f + back) row) ≡ take f rows
  kept = take-set-le f rows (f + back) row (omega arith)

  next : f + back + 1 ≡ front + back
  next = omega arith

  put : drop (f + back) (set rows (f + back) row) ≡ row ∷ rest
  put = drop-set rows (f + back) row within ∙ ap (λ (n : ℕ). row ∷ drop n rows) next

  whole : take front rows ++ rest ≡ take f rows ++ row ∷ rest
  whole = ap (λ (l : List GivenDefinition). l ++ rest) one ∙ append_assoc (take f rows) (row ∷ []) rest

  fore : take f (set rows (f + back) row) ++ drop (f + back) (set rows (f + back) row) ≡ take f rows ++ row ∷ rest
  fore = λ i. kept i ++ put i

  rear : take back later ++ drop (f + back) (set rows (f + back) row) ≡ take back later ++ row ∷ rest
  rear = ap (λ (l : List GivenDefinition). take back later ++ l) put

  now : take f (set rows (f + back) row) ++ (take back later ++ drop (f + back) (set rows (f + back) row)) ≡ take f rows ++ (take back later ++ row ∷ rest)
  now = λ i. kept i ++ rear i

  before : take front rows ++ (take back later ++ rest) ≡ take f rows ++ (row ∷ (take back later ++ rest))
  before = ap (λ (l : List GivenDefinition). l ++ (take back later ++ rest)) one ∙ append_assoc (take f rows) (row ∷ []) (take back later ++ rest)

  smaller : (k : ℕ) (d : GivenDefinition) → k < length (take back later) → row_id (get_or (take back later) k d) < row_id row
  smaller k d near =
      let size = length-take-le back later m.behind in
      let left : k < back = omega (arith, size) in
      let same = ap row_id (get_or-take back later k d left) in
      let upto = upto_last later rest back m.behind m.laters k d left in
      let least = ap row_id (end ∙ get_or_default later (back - 1) last d (omega (arith, m.behind))) in
      omega (arith, same, upto, least, great)

  small : (k : ℕ) (d : GivenDefinition) → k < length (take back later) → row_id (get_or (take back later) k d) ≤ row_id row
  small k d near = omega (arith, smaller k d near)

  moved : (id : ℕ) → starts_in (take f rows ++ (take back later ++ row ∷ rest)) id ≡ starts_in (take f rows ++ (row ∷ (take back later ++ rest))) id
  moved id =
      starts-append (take f rows) (take back later ++ row ∷ rest) id
      ∙ (ap (λ (l : List ℕ). starts_in (take f rows) id ++ l) (passed (take back later) rest row id (λ k d near same. omega (arith, smaller k d near, same)))
      ∙ sym (starts-append (take f rows) (row ∷ (take back later ++ rest)) id))

-- the last of the later rows goes behind all that are left of the first ones
pub later_step : (all : ℕ → List ℕ) (later rows : List GivenDefinition) (front back b : ℕ) (row : GivenDefinition) → IsMerging all later rows front back → back ≡ b + 1 → row ≡ get_or later b row
    → (0 < front → (d : GivenDefinition) → row_id (get_or rows (front - 1) d) ≤ row_id row) → IsMerging all later (set rows (front + b) row) front b
later_step all later rows front back b row m is read small = record {
  room = omega (arith, length-set rows (front + b) row, m.room);
  behind = omega (arith, m.behind);
  starts = λ id. ap (λ (l : List GivenDefinition). starts_in l id) (now ∙ sym before) ∙ m.starts id;
  fronts = subst P (sym fore) (joined (take front rows) (take b later) rest row m.fronts (subst P whole m.laters) smaller);
  laters = subst P (whole ∙ sym rear) m.laters;
} where
  P : List GivenDefinition → Type 0
  P l = IsAscending l

  rest : List GivenDefinition
  rest = drop (front + back) rows

  within : front + b < length rows
  within = omega (arith, m.room)

  one : take back later ≡ take b later ++ row ∷ []
  one = ap (λ (n : ℕ). take n later) is ∙ (take_more later b row (omega (arith, m.behind)) ∙ ap (λ (x : GivenDefinition). take b later ++ x ∷ []) (sym read))

  kept : take front (set rows (front + b) row) ≡ take front rows
  kept = take-set-le front rows (front + b) row (omega arith)

  next : front + b + 1 ≡ front + back
  next = omega arith

  put : drop (front + b) (set rows (front + b) row) ≡ row ∷ rest
  put = drop-set rows (front + b) row within ∙ ap (λ (n : ℕ). row ∷ drop n rows) next

  whole : take back later ++ rest ≡ take b later ++ row ∷ rest
  whole = ap (λ (l : List GivenDefinition). l ++ rest) one ∙ append_assoc (take b later) (row ∷ []) rest

  fore : take front (set rows (front + b) row) ++ drop (front + b) (set rows (front + b) row) ≡ take front rows ++ row ∷ rest
  fore = λ i. kept i ++ put i

  rear : take b later ++ drop (front + b) (set rows (front + b) row) ≡ take b later ++ row ∷ rest
  rear = ap (λ (l : List GivenDefinition). take b later ++ l) put

  now : take front (set rows (front + b) row) ++ (take b later ++ drop (front + b) (set rows (front + b) row)) ≡ take front rows ++ (take b later ++ row ∷ rest)
  now = λ i. kept i ++ rear i

  before : take front rows ++ (take back later ++ rest) ≡ take front rows ++ (take b later ++ row ∷ rest)
  before = ap (λ (l : List GivenDefinition). take front rows ++ l) whole

  smaller : (k : ℕ) (d : GivenDefinition) → k < length (take front rows) → row_id (get_or (take front rows) k d) ≤ row_id row
  smaller k d near =
      let size = length-take-le front rows (omega (arith, m.room)) in
      let left : k < front = omega (arith, size) in
      let same = ap row_id (get_or-take front rows k d left) in
      let upto = upto_last rows rest front (omega (arith, m.room)) m.fronts k d left in
      omega (arith, same, upto, small (omega arith) d)
