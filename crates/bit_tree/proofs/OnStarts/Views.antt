-- A table that is held as two lists of rows.
use Rattle.std.proofs.Common.{◌≡◌, ℕ, zero, suc, ◌+◌, ◌-◌, ◌<◌, ◌≤◌, List, [], ◌∷◌, ◌++◌, length, take, drop, get_or, map, refl, sym, ap, ◌∙◌, subst, arith, length-append, length-drop, get_or-drop, take_at}
use Rattle.std.specs.List.{insert, slice_get}
use Rattle.std.proofs.lemmas.List.{length-map}
use Rattle.bit_tree.specs.declared.starts.row.GivenDefinition.{GivenDefinition}
use Rattle.bit_tree.specs.Starts.Given.{starts_of, with_start}
use Rattle.bit_tree.specs.Starts.Rows.{row_id, starts_in, table_of}
use Rattle.bit_tree.proofs.OnStarts.Tables.{Table}
use Rattle.bit_tree.proofs.OnStarts.StartLists.{both_starts, merged_table, inserted_table}

abbrev pub start : GivenDefinition → ℕ
start row = row.start

-- the starts of an id are those of its rows in the one list and then those in the other
pub starts_are : (o : Table) (xs ys s r first later : List GivenDefinition) (id : ℕ) → table_of (xs ++ ys) ≡ o → s ≡ xs → r ≡ ys → map start first ≡ starts_in s id → map start later ≡ starts_in r id
    → starts_of o id ≡ map start first ++ map start later
starts_are o xs ys s r first later id is one two firsts laters =
    let front : starts_in xs id ≡ map start first = ap (λ (l : List GivenDefinition). starts_in l id) (sym one) ∙ sym firsts in
    let back : starts_in ys id ≡ map start later = ap (λ (l : List GivenDefinition). starts_in l id) (sym two) ∙ sym laters in
    ap (λ (t : Table). starts_of t id) (sym is) ∙ (both_starts xs ys id ∙ (λ i. front i ++ back i))

pub count_is : (o : Table) (xs ys s r first later : List GivenDefinition) (id : ℕ) → table_of (xs ++ ys) ≡ o → s ≡ xs → r ≡ ys → map start first ≡ starts_in s id → map start later ≡ starts_in r id
    → length first + length later ≡ length (starts_of o id)
count_is o xs ys s r first later id is one two firsts laters =
    let all = ap (λ (l : List ℕ). length l) (starts_are o xs ys s r first later id is one two firsts laters) in
    omega (arith, all, length-append (map start first) (map start later), length-map first start, length-map later start)

got_first : (xs ys : List ℕ) (i : ℕ) → i < length xs → slice_get (xs ++ ys) i ≡ slice_get xs i
got_first [] ys i near = absurd (omega arith)
got_first (x ∷ xs) ys zero near = refl
got_first (x ∷ xs) ys (suc i) near = got_first xs ys i (omega arith)

got_later : (xs ys : List ℕ) (i : ℕ) → slice_get (xs ++ ys) (length xs + i) ≡ slice_get ys i
got_later [] ys i = let same : 0 + i ≡ i = omega arith in ap (λ (n : ℕ). slice_get ys n) same
got_later (x ∷ xs) ys i =
    let next : suc (length xs) + i ≡ suc (length xs + i) = omega arith in
    ap (λ (n : ℕ). slice_get (x ∷ (xs ++ ys)) n) next ∙ got_later xs ys i

pub first_got : (o : Table) (xs ys s first : List GivenDefinition) (id index : ℕ) → table_of (xs ++ ys) ≡ o → s ≡ xs → map start first ≡ starts_in s id → index < length first
    → slice_get (map start first) index ≡ slice_get (starts_of o id) index
first_got o xs ys s first id index is one firsts near =
    let front : starts_in xs id ≡ map start first = ap (λ (l : List GivenDefinition). starts_in l id) (sym one) ∙ sym firsts in
    let whole : starts_of o id ≡ map start first ++ starts_in ys id = ap (λ (t : Table). starts_of t id) (sym is) ∙ (both_starts xs ys id ∙ ap (λ (l : List ℕ). l ++ starts_in ys id) front) in
    sym (ap (λ (l : List ℕ). slice_get l index) whole ∙ got_first (map start first) (starts_in ys id) index (omega (arith, length-map first start)))

pub later_got : (o : Table) (xs ys s r first later : List GivenDefinition) (id index : ℕ) → table_of (xs ++ ys) ≡ o → s ≡ xs → r ≡ ys → map start first ≡ starts_in s id → map start later ≡ starts_in r id
    → length first ≤ index → slice_get (map start later) (index - length first) ≡ slice_get (starts_of o id) index
later_got o xs ys s r first later id index is one two firsts laters far =
    let there : index ≡ length (map start first) + (index - length first) = omega (arith, length-map first start) in
    sym (ap (λ (l : List ℕ). slice_get l index) (starts_are o xs ys s r first later id is one two firsts laters)
    ∙ (ap (λ (n : ℕ). slice_get (map start first ++ map start later) n) there ∙ got_later (map start first) (map start later) (index - length first)))

-- merging keeps the table
pub settled_is : (o : Table) (xs ys all later zs rows last : List GivenDefinition) (count : ℕ) → table_of (xs ++ ys) ≡ o → all ≡ xs ++ ys → count ≡ length xs → later ≡ ys
    → ((id : ℕ) → starts_in zs id ≡ starts_in (take count all) id ++ starts_in later id) → rows ≡ zs → last ≡ [] → table_of (rows ++ last) ≡ o
settled_is o xs ys all later zs rows last count is whole long behind starts same none =
    (λ i. table_of (same i ++ none i)) ∙ (merged_table xs ys zs alike ∙ is) where
      front : take count all ≡ xs
      front = (λ i. take (long i) (whole i)) ∙ take_at xs ys (length xs) refl

      alike : (id : ℕ) → starts_in zs id ≡ starts_in xs id ++ starts_in ys id
      alike id = starts id ∙ (λ i. starts_in (front i) id ++ starts_in (behind i) id)

-- a new row at its place is one more definition
pub given_is : (o before : Table) (xs ys s later : List GivenDefinition) (at id start : ℕ) (row : GivenDefinition) → before ≡ o → table_of (xs ++ ys) ≡ before → s ≡ ys → row_id row ≡ id → row.start ≡ start
    → ((k : ℕ) (d : GivenDefinition) → at ≤ k → k < length s → id < row_id (get_or s k d)) → later ≡ insert ys at row → table_of (xs ++ later) ≡ with_start o id start
given_is o before xs ys s later at id start row same is whole its from above placed =
    ap (λ (l : List GivenDefinition). table_of (xs ++ l)) placed ∙ (inserted_table xs ys at row apart ∙ (λ i. with_start (table i) (its i) (from i))) where
      table : table_of (xs ++ ys) ≡ o
      table = is ∙ same

      higher : (k : ℕ) (d : GivenDefinition) → at ≤ k → k < length ys → id < row_id (get_or ys k d)
      higher = subst (λ (l : List GivenDefinition). (k : ℕ) (d : GivenDefinition) → at ≤ k → k < length l → id < row_id (get_or l k d)) whole above

      apart : (k : ℕ) (d : GivenDefinition) → k < length (drop at ys) → row_id (get_or (drop at ys) k d) ≡ row_id row → ⊥
      apart k d near clash =
          let here = ap row_id (get_or-drop at ys k d) in
          let high = higher (at + k) d (omega arith) (omega (arith, length-drop at ys)) in
          omega (arith, here, high, clash, its)
