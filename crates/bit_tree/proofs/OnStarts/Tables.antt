-- Tables of starts: the ids ascend, and each has some.
use Rattle.std.proofs.Common.{◌≡◌, ℕ, ◌<◌, ◌≤◌, true, false, List, [], ◌∷◌, length, Less, Greater, nat_cmp, refl, sym, ap, ◌∙◌, subst, arith, ⊎_elim, lt-ltb, le-ltb, eq-eqb, ne_eqb}
use Rattle.std.specs.Map.{remove_entry}
use Rattle.std.specs.BTreeMap.{is_at, insert_entry}
use Rattle.std.proofs.lemmas.Bool.{cases_order, cases_eq, cases_lt}
use Rattle.bit_tree.specs.Starts.Given.{starts_of}

abbrev pub Table : Type 0
Table = List (ℕ × List ℕ)

less : (x y : ℕ) → x < y → nat_cmp x y ≡ Less
less x y below = rw (lt-ltb x y below) refl

greater : (x y : ℕ) → y < x → nat_cmp x y ≡ Greater
greater x y above = rw (le-ltb x y (omega arith), ne_eqb x y (λ same. omega arith)) refl

at_same : (x y : ℕ) → x ≡ y → is_at (nat_cmp x) y ≡ true
at_same x y same = rw (le-ltb x y (omega arith), eq-eqb x y same) refl

at_other : (x y : ℕ) → (x ≡ y → ⊥) → is_at (nat_cmp x) y ≡ false
at_other x y other = ⊎_elim (λ below. rw (lt-ltb x y below) refl) (λ above. rw (le-ltb x y above, ne_eqb x y other) refl) (cases_lt x y)

-- a number is below the first id of a table
abbrev pub IsBelow : ℕ → Table → Type 0
IsBelow id [] = Unit {0}
IsBelow id (e ∷ es) = id < e.0

-- the ids of a table ascend, and each has starts
abbrev pub IsTable : Table → Type 0
IsTable [] = Unit {0}
IsTable (e ∷ es) = IsBelow e.0 es × (0 < length e.1) × IsTable es

-- looking up

here : (e : ℕ × List ℕ) (es : Table) (id : ℕ) → id ≡ e.0 → starts_of (e ∷ es) id ≡ e.1
here e es id same = rw (at_same id e.0 same) refl

there : (e : ℕ × List ℕ) (es : Table) (id : ℕ) → (id ≡ e.0 → ⊥) → starts_of (e ∷ es) id ≡ starts_of es id
there e es id other = rw (at_other id e.0 other) refl

none_below : (es : Table) (first id : ℕ) → IsTable es → IsBelow first es → id ≤ first → starts_of es id ≡ []
none_below [] first id table below small = refl
none_below (e ∷ es) first id table below small = there e es id (λ same. omega arith) ∙ none_below es e.0 id table.2 table.0 (omega arith)

-- a table with these starts for an id

abbrev pub put : Table → ℕ → List ℕ → Table
put table id l = insert_entry nat_cmp (remove_entry (is_at (nat_cmp id)) table) id l

removed_none : (es : Table) (first id : ℕ) → IsTable es → IsBelow first es → id ≤ first → remove_entry (is_at (nat_cmp id)) es ≡ es
removed_none [] first id table below small = refl
removed_none (e ∷ es) first id table below small =
    rw (at_other id e.0 (λ same. omega arith)) (ap (λ (l : Table). e ∷ l) (removed_none es e.0 id table.2 table.0 (omega arith)))

inserted_first : (es : Table) (id : ℕ) (l : List ℕ) → IsBelow id es → insert_entry nat_cmp es id l ≡ (id, l) ∷ es
inserted_first [] id l below = refl
inserted_first (e ∷ es) id l below = rw (less id e.0 below) refl

put_before : (e : ℕ × List ℕ) (es : Table) (id : ℕ) (l : List ℕ) → IsTable (e ∷ es) → id < e.0 → put (e ∷ es) id l ≡ (id, l) ∷ e ∷ es
put_before e es id l table below =
    ap (λ (t : Table). insert_entry nat_cmp t id l) (removed_none (e ∷ es) id id table below (omega arith)) ∙ inserted_first (e ∷ es) id l below

put_here : (e : ℕ × List ℕ) (es : Table) (id : ℕ) (l : List ℕ) → IsTable (e ∷ es) → id ≡ e.0 → put (e ∷ es) id l ≡ (id, l) ∷ es
put_here e es id l table same =
    let rest : remove_entry (is_at (nat_cmp id)) (e ∷ es) ≡ es = rw (at_same id e.0 same) refl in
    ap (λ (t : Table). insert_entry nat_cmp t id l) rest ∙ inserted_first es id l (subst (λ (n : ℕ). IsBelow n es) (sym same) table.0)

put_behind : (e : ℕ × List ℕ) (es : Table) (id : ℕ) (l : List ℕ) → e.0 < id → put (e ∷ es) id l ≡ e ∷ put es id l
put_behind e es id l above =
    let rest : remove_entry (is_at (nat_cmp id)) (e ∷ es) ≡ e ∷ remove_entry (is_at (nat_cmp id)) es = rw (at_other id e.0 (λ same. omega arith)) refl in
    ap (λ (t : Table). insert_entry nat_cmp t id l) rest ∙ rw (greater id e.0 above) refl

put_above : (es : Table) (first id : ℕ) (l : List ℕ) → IsTable es → IsBelow first es → first < id → IsBelow first (put es id l)
put_above [] first id l table below small = small
put_above (e ∷ es) first id l table below small =
    let P : Table → Type 0 = λ t. IsBelow first t in
    ⊎_elim (λ same. subst P (sym (put_here e es id l table same)) small)
    (⊎_elim (λ before. subst P (sym (put_before e es id l table before)) small) (λ behind. subst P (sym (put_behind e es id l behind)) below))
    (cases_order id e.0)

pub put_table : (es : Table) (id : ℕ) (l : List ℕ) → IsTable es → 0 < length l → IsTable (put es id l)
put_table [] id l table some = (tt, some, tt)
put_table (e ∷ es) id l table some =
    let P : Table → Type 0 = λ t. IsTable t in
    let B : ℕ → Type 0 = λ n. IsBelow n es in
    ⊎_elim (λ same. subst P (sym (put_here e es id l table same)) (subst B (sym same) table.0, some, table.2))
    (⊎_elim (λ before. subst P (sym (put_before e es id l table before)) (before, some, table))
    (λ behind. subst P (sym (put_behind e es id l behind)) (put_above es e.0 id l table.2 table.0 behind, table.1, put_table es id l table.2 some)))
    (cases_order id e.0)

pub put_same : (es : Table) (id : ℕ) (l : List ℕ) → IsTable es → starts_of (put es id l) id ≡ l
put_same [] id l table = here (id, l) [] id refl
put_same (e ∷ es) id l table =
    let F : Table → List ℕ = λ t. starts_of t id in
    ⊎_elim (λ same. ap F (put_here e es id l table same) ∙ here (id, l) es id refl)
    (⊎_elim (λ before. ap F (put_before e es id l table before) ∙ here (id, l) (e ∷ es) id refl)
    (λ behind. ap F (put_behind e es id l behind) ∙ (there e (put es id l) id (λ same. omega arith) ∙ put_same es id l table.2)))
    (cases_order id e.0)

pub put_other : (es : Table) (id other : ℕ) (l : List ℕ) → IsTable es → (other ≡ id → ⊥) → starts_of (put es id l) other ≡ starts_of es other
put_other [] id other l table apart = there (id, l) [] other apart
put_other (e ∷ es) id other l table apart =
    let F : Table → List ℕ = λ t. starts_of t other in
    ⊎_elim (λ same. ap F (put_here e es id l table same) ∙ (there (id, l) es other apart ∙ sym (there e es other (λ at. apart (at ∙ sym same)))))
    (⊎_elim (λ before. ap F (put_before e es id l table before) ∙ there (id, l) (e ∷ es) other apart)
    (λ behind. ap F (put_behind e es id l behind) ∙ ⊎_elim
    (λ at. here e (put es id l) other at ∙ sym (here e es other at))
    (λ off. there e (put es id l) other off ∙ (put_other es id other l table.2 apart ∙ sym (there e es other off)))
    (cases_eq other e.0)))
    (cases_order id e.0)

-- a table is known by what it has for each id

missing : (l : List ℕ) → 0 < length l → l ≡ [] → ⊥
missing l some none = let zero_long : length l ≡ 0 = ap (λ (m : List ℕ). length m) none in omega arith

pub same_tables : (xs ys : Table) → IsTable xs → IsTable ys → ((id : ℕ) → starts_of xs id ≡ starts_of ys id) → xs ≡ ys
same_tables [] [] left right alike = refl
same_tables [] (y ∷ ys) left right alike = absurd (missing y.1 right.1 (sym (here y ys y.0 refl) ∙ sym (alike y.0)))
same_tables (x ∷ xs) [] left right alike = absurd (missing x.1 left.1 (sym (here x xs x.0 refl) ∙ alike x.0))
same_tables (x ∷ xs) (y ∷ ys) left right alike =
    ⊎_elim
    (λ same.
    let first : x.1 ≡ y.1 = sym (here x xs x.0 refl) ∙ (alike x.0 ∙ here y ys x.0 same) in
    let rest : xs ≡ ys = same_tables xs ys left.2 right.2 (λ id. ⊎_elim
    (λ at. none_below xs x.0 id left.2 left.0 (omega arith) ∙ sym (none_below ys y.0 id right.2 right.0 (omega arith)))
    (λ off. sym (there x xs id off) ∙ (alike id ∙ there y ys id (λ at. off (at ∙ sym same))))
    (cases_eq id x.0)) in
    λ i. (same i, first i) ∷ rest i)
    (⊎_elim
    (λ before. absurd (missing x.1 left.1 (sym (here x xs x.0 refl) ∙ (alike x.0 ∙ none_below (y ∷ ys) x.0 x.0 right before (omega arith)))))
    (λ behind. absurd (missing y.1 right.1 (sym (here y ys y.0 refl) ∙ (sym (alike y.0) ∙ none_below (x ∷ xs) y.0 y.0 left behind (omega arith))))))
    (cases_order x.0 y.0)
