-- The starts of rows for an id, and the table that rows make.
use Rattle.std.proofs.Common.{◌≡◌, ℕ, List, [], ◌∷◌, ◌++◌, take, drop, map, refl, sym, ap, ◌∙◌, subst, arith, ⊎_elim, eq-eqb, ne_eqb, append_assoc, append-nil, take-append-drop}
use Rattle.std.specs.List.{All, insert}
use Rattle.std.proofs.lemmas.Bool.{cases_eq}
use Rattle.std.proofs.lemmas.List.{length_push}
use Rattle.std.proofs.lemmas.List.Elements.{All-head, All-tail}
use Rattle.bit_tree.specs.declared.starts.row.GivenDefinition.{GivenDefinition}
use Rattle.bit_tree.specs.Starts.Given.{starts_of, with_start}
use Rattle.bit_tree.specs.Starts.Rows.{row_id, starts_in, table_from, table_of}
use Rattle.bit_tree.proofs.OnStarts.Tables.{Table, IsTable, put, put_table, put_same, put_other, same_tables}

pub first_in : (row : GivenDefinition) (rows : List GivenDefinition) (id : ℕ) → row_id row ≡ id → starts_in (row ∷ rows) id ≡ row.start ∷ starts_in rows id
first_in row rows id same = rw (eq-eqb (row_id row) id same) refl

pub first_out : (row : GivenDefinition) (rows : List GivenDefinition) (id : ℕ) → (row_id row ≡ id → ⊥) → starts_in (row ∷ rows) id ≡ starts_in rows id
first_out row rows id other = rw (ne_eqb (row_id row) id other) refl

pub starts-append : (xs ys : List GivenDefinition) (id : ℕ) → starts_in (xs ++ ys) id ≡ starts_in xs id ++ starts_in ys id
starts-append [] ys id = refl
starts-append (x ∷ xs) ys id =
    let rest = starts-append xs ys id in
    ⊎_elim
    (λ same. first_in x (xs ++ ys) id same ∙ (ap (λ (l : List ℕ). x.start ∷ l) rest ∙ ap (λ (l : List ℕ). l ++ starts_in ys id) (sym (first_in x xs id same))))
    (λ other. first_out x (xs ++ ys) id other ∙ (rest ∙ ap (λ (l : List ℕ). l ++ starts_in ys id) (sym (first_out x xs id other))))
    (cases_eq (row_id x) id)

pub starts_none : (xs : List GivenDefinition) (id : ℕ) → All (λ (row : GivenDefinition). row_id row ≡ id → ⊥) xs → starts_in xs id ≡ []
starts_none [] id all = refl
starts_none (x ∷ xs) id all =
    let P : GivenDefinition → Type 0 = λ row. row_id row ≡ id → ⊥ in
    first_out x xs id (All-head P x xs all) ∙ starts_none xs id (All-tail P x xs all)

pub starts_all : (xs : List GivenDefinition) (id : ℕ) → All (λ (row : GivenDefinition). row_id row ≡ id) xs → starts_in xs id ≡ map (λ (row : GivenDefinition). row.start) xs
starts_all [] id all = refl
starts_all (x ∷ xs) id all =
    let P : GivenDefinition → Type 0 = λ row. row_id row ≡ id in
    first_in x xs id (All-head P x xs all) ∙ ap (λ (l : List ℕ). x.start ∷ l) (starts_all xs id (All-tail P x xs all))

-- a row may stand behind rows of other ids, or in front of them
pub passed : (ys rest : List GivenDefinition) (row : GivenDefinition) (id : ℕ) → All (λ (y : GivenDefinition). row_id y ≡ row_id row → ⊥) ys → starts_in (ys ++ row ∷ rest) id ≡ starts_in (row ∷ (ys ++ rest)) id
passed [] rest row id all = refl
passed (y ∷ ys) rest row id all =
    let P : GivenDefinition → Type 0 = λ z. row_id z ≡ row_id row → ⊥ in
    let next = passed ys rest row id (All-tail P y ys all) in
    let cons : ℕ → List ℕ → List ℕ = λ start l. start ∷ l in
    ⊎_elim
    (λ same.
    let out : row_id y ≡ id → ⊥ = λ here. All-head P y ys all (here ∙ sym same) in
    first_out y (ys ++ row ∷ rest) id out ∙ (next ∙ (first_in row (ys ++ rest) id same ∙ (ap (cons row.start) (sym (first_out y (ys ++ rest) id out)) ∙ sym (first_in row (y ∷ (ys ++ rest)) id same)))))
    (λ other. ⊎_elim
    (λ here. first_in y (ys ++ row ∷ rest) id here ∙ (ap (cons y.start) (next ∙ first_out row (ys ++ rest) id other) ∙ (sym (first_in y (ys ++ rest) id here) ∙ sym (first_out row (y ∷ (ys ++ rest)) id other))))
    (λ out. first_out y (ys ++ row ∷ rest) id out ∙ (next ∙ (first_out row (ys ++ rest) id other ∙ (sym (first_out y (ys ++ rest) id out) ∙ sym (first_out row (y ∷ (ys ++ rest)) id other)))))
    (cases_eq (row_id y) id))
    (cases_eq (row_id row) id)

-- tables

with_start_table : (table : Table) (id start : ℕ) → IsTable table → IsTable (with_start table id start)
with_start_table table id start is =
    let l = starts_of table id in
    let long = length_push l start in
    put_table table id (l ++ start ∷ []) is (omega (arith, long))

with_start_starts : (table : Table) (row : GivenDefinition) (rows : List GivenDefinition) (id : ℕ) → IsTable table
    → starts_of (with_start table (row_id row) row.start) id ++ starts_in rows id ≡ starts_of table id ++ starts_in (row ∷ rows) id
with_start_starts table row rows id is =
    let at = row_id row in
    let l = starts_of table at ++ row.start ∷ [] in
    ⊎_elim
    (λ same.
    let there : starts_of (put table at l) id ≡ starts_of table id ++ row.start ∷ [] =
    subst (λ (n : ℕ). starts_of (put table at l) n ≡ starts_of table n ++ row.start ∷ []) (sym same) (put_same table at l is) in
    ap (λ (m : List ℕ). m ++ starts_in rows id) there ∙ (append_assoc (starts_of table id) (row.start ∷ []) (starts_in rows id) ∙ ap (λ (m : List ℕ). starts_of table id ++ m) (sym (first_in row rows id (sym same)))))
    (λ other.
    ap (λ (m : List ℕ). m ++ starts_in rows id) (put_other table at id l is other) ∙ ap (λ (m : List ℕ). starts_of table id ++ m) (sym (first_out row rows id (λ same. other (sym same)))))
    (cases_eq id at)

from_table : (table : Table) (rows : List GivenDefinition) → IsTable table → IsTable (table_from table rows)
from_table table [] is = is
from_table table (row ∷ rows) is = from_table (with_start table (row_id row) row.start) rows (with_start_table table (row_id row) row.start is)

from_starts : (table : Table) (rows : List GivenDefinition) (id : ℕ) → IsTable table → starts_of (table_from table rows) id ≡ starts_of table id ++ starts_in rows id
from_starts table [] id is = sym (append-nil (starts_of table id))
from_starts table (row ∷ rows) id is =
    from_starts (with_start table (row_id row) row.start) rows id (with_start_table table (row_id row) row.start is) ∙ with_start_starts table row rows id is

pub table_starts : (rows : List GivenDefinition) (id : ℕ) → starts_of (table_of rows) id ≡ starts_in rows id
table_starts rows id = from_starts [] rows id tt

-- rows with the same starts for each id make one table
pub same_rows : (xs ys : List GivenDefinition) → ((id : ℕ) → starts_in xs id ≡ starts_in ys id) → table_of xs ≡ table_of ys
same_rows xs ys alike =
    same_tables (table_of xs) (table_of ys) (from_table [] xs tt) (from_table [] ys tt) (λ id. table_starts xs id ∙ (alike id ∙ sym (table_starts ys id)))

table_push : (table : Table) (rows : List GivenDefinition) (row : GivenDefinition) → table_from table (rows ++ row ∷ []) ≡ with_start (table_from table rows) (row_id row) row.start
table_push table [] row = refl
table_push table (x ∷ xs) row = table_push (with_start table (row_id x) x.start) xs row

-- the starts of two lists of rows are those of the one and then those of the other
pub both_starts : (xs ys : List GivenDefinition) (id : ℕ) → starts_of (table_of (xs ++ ys)) id ≡ starts_in xs id ++ starts_in ys id
both_starts xs ys id = table_starts (xs ++ ys) id ∙ starts-append xs ys id

-- merged rows make the table that they made one behind the other
pub merged_table : (xs ys zs : List GivenDefinition) → ((id : ℕ) → starts_in zs id ≡ starts_in xs id ++ starts_in ys id) → table_of (zs ++ []) ≡ table_of (xs ++ ys)
merged_table xs ys zs alike =
    same_rows (zs ++ []) (xs ++ ys) (λ id. ap (λ (l : List GivenDefinition). starts_in l id) (append-nil zs) ∙ (alike id ∙ sym (starts-append xs ys id)))

-- a row that is inserted in front of greater ids is one more definition
pub inserted_table : (xs ys : List GivenDefinition) (at : ℕ) (row : GivenDefinition) → All (λ (y : GivenDefinition). row_id y ≡ row_id row → ⊥) (drop at ys)
    → table_of (xs ++ insert ys at row) ≡ with_start (table_of (xs ++ ys)) (row_id row) row.start
inserted_table xs ys at row others =
    same_rows (xs ++ insert ys at row) ((xs ++ ys) ++ row ∷ []) alike ∙ table_push [] (xs ++ ys) row where
      behind : (id : ℕ) → starts_in (row ∷ drop at ys) id ≡ starts_in (drop at ys ++ row ∷ []) id
      behind id = sym (passed (drop at ys) [] row id others ∙ ap (λ (l : List GivenDefinition). starts_in (row ∷ l) id) (append-nil (drop at ys)))

      whole : take at ys ++ (drop at ys ++ row ∷ []) ≡ ys ++ row ∷ []
      whole = sym (append_assoc (take at ys) (drop at ys) (row ∷ [])) ∙ ap (λ (l : List GivenDefinition). l ++ row ∷ []) (take-append-drop at ys)

      placed : (id : ℕ) → starts_in (insert ys at row) id ≡ starts_in (ys ++ row ∷ []) id
      placed id =
          starts-append (take at ys) (row ∷ drop at ys) id ∙ (ap (λ (l : List ℕ). starts_in (take at ys) id ++ l) (behind id) ∙ (sym (starts-append (take at ys) (drop at ys ++ row ∷ []) id) ∙ ap (λ (l : List GivenDefinition). starts_in l id) whole))

      alike : (id : ℕ) → starts_in (xs ++ insert ys at row) id ≡ starts_in ((xs ++ ys) ++ row ∷ []) id
      alike id =
          starts-append xs (insert ys at row) id ∙ (ap (λ (l : List ℕ). starts_in xs id ++ l) (placed id) ∙ (sym (starts-append xs (ys ++ row ∷ []) id) ∙ ap (λ (l : List GivenDefinition). starts_in l id) (sym (append_assoc xs ys (row ∷ [])))))
