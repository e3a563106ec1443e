-- Indices as a loop reads them, each behind its type: what is read so far, and what is still to come.
use Rattle.std.proofs.Common.{◌≡◌, ◌⊎◌, ◌≤◌, ◌<◌, ◌+◌, ◌-◌, ℕ, zero, suc, Bool, true, false, cond, List, ◌++◌, Option, Some, None, length, All, inl, inr, refl, sym, ap, subst, ◌∙◌, arith}
use Rattle.std.specs.Prelude.{option_to_list}
use Rattle.std.proofs.lemmas.List.{append-nil}
use Rattle.std.proofs.lemmas.List.Elements.{All-push}
use Rattle.type_table.specs.Tree.{Tree}
use Rattle.type_table.specs.Types.{Types, tree, trees}
use Rattle.module_arena.specs.declared.constant.TypedConst.{TypedConst}
use Rattle.module_arena.specs.Module as m
use Rattle.module_arena.specs.View.{constant_at, constants_of}
use Rattle.record_table.specs.Walk.{Walk, going, stopped, next}
use Rattle.record_table.specs.Layout.{Layout}
use Rattle.record_table.specs.Constants.{Reads, typed}
use Rattle.record_table.specs.Fields.{Numbering, ty}
use Rattle.record_read.specs.Reader.{Reader, is_broken, is_stopped}
use Rattle.type_read.specs.declared.arena.module_reader.ModuleReader.{ModuleReader}
use Rattle.type_read.specs.Arena.Growing.{IsConstant}
use Rattle.type_read.specs.Arena.Numbered.{Numbers, IsDeclared}
use Rattle.type_read.specs.Arena.Kept.{Goes, Keeps, IsRead, IsThere, IsKnownType, HasConstant, ReadsType, tree_at}
use Rattle.type_read.proofs.OnArena.Kept.{same_table}
use Rattle.type_read.proofs.OnArena.Steps.{goes_self, goes_two, still_declared, still_numbers}
use Rattle.body_read.specs.Constants.Made.{AreIndices, HasAll, HasTyped, typed_of}
use Rattle.body_read.proofs.OnConstants.Listing.{joined, joined_none, joined_two, at_push, typed_stay, constants_stay}

-- these are read, and so many are to come
pub record AreTypedSoFar (t : Layout Tree) (one : Reads) (first : Walk) (count : ℕ) (cs : m.Constants) (n : ℕ) (now : Walk) : Type 0 where
  pub values : (typed t one count first).0 ≡ joined cs (typed t one n now).0
  pub walk : (typed t one count first).1 ≡ (typed t one n now).1

typed_going : (t : Layout Tree) (one : Reads) (first : Walk) (count : ℕ) (cs : m.Constants) (n : ℕ) (rest : List ℕ) (broken : Option ℕ) → AreTypedSoFar t one first count cs (suc n) (going rest broken)
    → AreTypedSoFar t one first count (joined cs (m.more_constants (t.read (going rest broken)).0 (one (t.read (going rest broken)).0 (t.read (going rest broken)).1).0 m.no_constants)) n (one (t.read (going rest broken)).0 (t.read (going rest broken)).1).1
unfolding typed
typed_going t one first count cs n rest broken h =
    let u = t.read (going rest broken) in
    let c = one u.0 u.1 in
    record { values = h.values ∙ sym (joined_two cs (m.more_constants u.0 c.0 m.no_constants) (typed t one n c.1).0); walk = h.walk }

typed_suc : (t : Layout Tree) (one : Reads) (first : Walk) (count : ℕ) (cs : m.Constants) (n : ℕ) (now : Walk) → is_stopped now ≡ false → AreTypedSoFar t one first count cs (suc n) now
    → AreTypedSoFar t one first count (joined cs (m.more_constants (t.read now).0 (one (t.read now).0 (t.read now).1).0 m.no_constants)) n (one (t.read now).0 (t.read now).1).1
typed_suc t one first count cs n (going rest broken) goes h = typed_going t one first count cs n rest broken h
typed_suc t one first count cs n (stopped broken) goes h = absurd (cc)

-- all are read
pub record AreAllTyped (t : Layout Tree) (one : Reads) (first : Walk) (count : ℕ) (cs : m.Constants) (now : Walk) : Type 0 where
  pub values : (typed t one count first).0 ≡ cs
  pub walk : (typed t one count first).1 ≡ now

typed_zero : (t : Layout Tree) (one : Reads) (first : Walk) (count : ℕ) (cs : m.Constants) (now : Walk) → AreTypedSoFar t one first count cs zero now → AreAllTyped t one first count cs now
unfolding typed
typed_zero t one first count cs now h = record { values = h.values ∙ joined_none cs; walk = h.walk }

typed_stopped : (t : Layout Tree) (one : Reads) (first : Walk) (count : ℕ) (cs : m.Constants) (n : ℕ) (now : Walk) → is_stopped now ≡ true → AreTypedSoFar t one first count cs n now → AreAllTyped t one first count cs now
unfolding typed
typed_stopped t one first count cs n (going rest broken) stops h = absurd (cc)
typed_stopped t one first count cs zero (stopped broken) stops h = record { values = h.values ∙ joined_none cs; walk = h.walk }
typed_stopped t one first count cs (suc n) (stopped broken) stops h = record { values = h.values ∙ joined_none cs; walk = h.walk }

typed_over : (t : Layout Tree) (one : Reads) (first : Walk) (count : ℕ) (cs : m.Constants) (n : ℕ) (now : Walk) → (n ≡ 0) ⊎ (is_stopped now ≡ true) → AreTypedSoFar t one first count cs n now → AreAllTyped t one first count cs now
typed_over t one first count cs n now (inl none) h = typed_zero t one first count cs now (subst (λ k. AreTypedSoFar t one first count cs k now) none h)
typed_over t one first count cs n now (inr stops) h = typed_stopped t one first count cs n now stops h

-- the indices so far, by what indices stand for
pub record AreIndexed (k : Numbering) (one : Reads) (first now : ModuleReader) (base : Option TypedConst) (count place : ℕ) (items : List TypedConst) : Type 0 where
  pub cs : m.Constants
  pub far : AreTypedSoFar (ty k) one first.reader.walk count cs (count - place) now.reader.walk
  pub kept : IsDeclared first k → is_broken now.reader.walk ≡ false → AreIndices base now.growing.arena items cs

-- what a loop over the indices keeps
pub record IsIndexing (one : Numbering → Reads) (first now : ModuleReader) (base : Option TypedConst) (count place : ℕ) (items : List TypedConst) : Type 0 where
  pub goes : Goes first now
  pub base_there : IsThere (HasTyped now.growing.arena) base now.reader.walk
  pub all_typed : All (HasTyped now.growing.arena) items
  pub place_in : place ≤ count
  pub reads : (k : Numbering) → Numbers first k → AreIndexed k (one k) first now base count place items

pub indexing_starts : (one : Numbering → Reads) (first : ModuleReader) (base : Option TypedConst) (count : ℕ) (items : List TypedConst) → IsThere (HasTyped first.growing.arena) base first.reader.walk → items ≡ option_to_list base → IsIndexing one first first base count 0 items
indexing_starts one first base count items there is = subst (IsIndexing one first first base count 0) (sym is) (record {
  goes = goes_self first;
  base_there = there;
  all_typed = begun base there;
  place_in = omega arith;
  reads = λ k h. record { cs = m.no_constants; far = start k (count - 0) (omega arith); kept = λ declared unbroken. meant base there unbroken };
})
  where
    start : (k : Numbering) (n : ℕ) → n ≡ count → AreTypedSoFar (ty k) (one k) first.reader.walk count m.no_constants n first.reader.walk
    start k n same = subst (λ i. AreTypedSoFar (ty k) (one k) first.reader.walk count m.no_constants i first.reader.walk) (sym same) (record { values = refl; walk = refl })

    begun : (o : Option TypedConst) → IsThere (HasTyped first.growing.arena) o first.reader.walk → All (HasTyped first.growing.arena) (option_to_list o)
    begun None h k d lt = absurd (omega arith)
    begun (Some b) h zero d lt = h
    begun (Some b) h (suc k) d lt = absurd (omega arith)

    meant : (o : Option TypedConst) → IsThere (HasTyped first.growing.arena) o first.reader.walk → is_broken first.reader.walk ≡ false → AreIndices o first.growing.arena (option_to_list o) m.no_constants
    meant None h unbroken = let broken : is_broken first.reader.walk ≡ true = h in absurd (cc)
    meant (Some b) h unbroken = refl

module _ (one : Numbering → Reads) (first now mid after : ModuleReader) (base : Option TypedConst) (part value : Option ℕ) (count place : ℕ) (items more : List TypedConst) (h : IsIndexing one first now base count place items)
    (less : place < count) (on : is_stopped now.reader.walk ≡ false) (step : Goes now mid) (known : IsKnownType mid part) (type_read : (k : Numbering) → Numbers now k → ReadsType k now mid part)
    (keeps : Keeps HasConstant mid after value) (reads : (k : Numbering) → Numbers mid k → IsRead k IsConstant (one k (tree_at mid.growing.arena.table part) mid.reader.walk) mid after value)
    (pushed : more ≡ items ++ option_to_list (typed_of part value)) where
  whole : Goes now after
  whole = goes_two now mid after step keeps.goes

  more_typed : (p v : Option ℕ) → IsKnownType mid p → Keeps HasConstant mid after v → All (HasTyped after.growing.arena) (items ++ option_to_list (typed_of p v))
  more_typed None v k g = subst (All (HasTyped after.growing.arena)) (sym (append-nil items)) (typed_stay now.growing after.growing items whole.grows h.all_typed)
  more_typed (Some id) None k g = subst (All (HasTyped after.growing.arena)) (sym (append-nil items)) (typed_stay now.growing after.growing items whole.grows h.all_typed)
  more_typed (Some id) (Some c) k g =
      All-push (HasTyped after.growing.arena) items (record { ty = id; value = c }) (typed_stay now.growing after.growing items whole.grows h.all_typed)
      (subst (λ (t : Types). id < length t.types) (sym (same_table mid.growing after.growing keeps.goes.grows)) k, g.there)

  more_kept : (k : Numbering) (cs : m.Constants) (b : Option TypedConst) (p v : Option ℕ) → (is_broken now.reader.walk ≡ false → AreIndices b now.growing.arena items cs) → IsThere (HasTyped now.growing.arena) b now.reader.walk → IsKnownType mid p → tree_at now.growing.arena.table p ≡ ((ty k).read now.reader.walk).0
      → Keeps HasConstant mid after v → IsRead k IsConstant (one k (tree_at mid.growing.arena.table p) mid.reader.walk) mid after v → mid.reader.walk ≡ ((ty k).read now.reader.walk).1 → IsDeclared mid k → is_broken after.reader.walk ≡ false
      → AreIndices b after.growing.arena (items ++ option_to_list (typed_of p v)) (joined cs (m.more_constants ((ty k).read now.reader.walk).0 (one k ((ty k).read now.reader.walk).0 ((ty k).read now.reader.walk).1).0 m.no_constants))
  more_kept k cs b p v so_far there kn is g r at declared unbroken = by b p v so_far there kn is g r (was (is_broken now.reader.walk) refl)
    where
      was : (x : Bool) → is_broken now.reader.walk ≡ x → is_broken now.reader.walk ≡ false
      was false e = e
      was true e = let broken : is_broken after.reader.walk ≡ true = whole.lasts e in absurd (cc)

      by : (b : Option TypedConst) (p v : Option ℕ) → (is_broken now.reader.walk ≡ false → AreIndices b now.growing.arena items cs) → IsThere (HasTyped now.growing.arena) b now.reader.walk → IsKnownType mid p → tree_at now.growing.arena.table p ≡ ((ty k).read now.reader.walk).0
          → Keeps HasConstant mid after v → IsRead k IsConstant (one k (tree_at mid.growing.arena.table p) mid.reader.walk) mid after v → is_broken now.reader.walk ≡ false
          → AreIndices b after.growing.arena (items ++ option_to_list (typed_of p v)) (joined cs (m.more_constants ((ty k).read now.reader.walk).0 (one k ((ty k).read now.reader.walk).0 ((ty k).read now.reader.walk).1).0 m.no_constants))
      by b None v so_far there kn is g r before = let broken : is_broken after.reader.walk ≡ true = g.goes.lasts kn in absurd (cc)
      by b (Some id) None so_far there kn is g r before = let broken : is_broken after.reader.walk ≡ true = g.there in absurd (cc)
      by None (Some id) (Some c) so_far there kn is g r before = absurd (so_far before)
      by (Some b) (Some id) (Some c) so_far there kn is g r before =
          let constant = (r.kept declared).constant in
          let later = same_table now.growing after.growing whole.grows in
          let middle = same_table now.growing mid.growing step.grows in
          let here : tree_at mid.growing.arena.table (Some id) ≡ ((ty k).read now.reader.walk).0 = ap (λ (t : Types). tree t id) middle ∙ is in
          let bt : HasTyped now.growing.arena b = there in
          let b_is : m.more_constants (tree now.growing.arena.table b.ty) (constant_at (constants_of now.growing.arena) b.value) cs ≡ m.more_constants (tree after.growing.arena.table b.ty) (constant_at (constants_of after.growing.arena) b.value) cs =
          (λ i. m.more_constants (tree (sym later i) b.ty) (sym ((whole.grows.constants b.value bt.1).constant) i) cs) in
          let old_items = constants_stay now.growing after.growing items whole.grows h.all_typed ∙ (so_far before ∙ b_is) in
          at_push (trees after.growing.arena.table) (constants_of after.growing.arena) items (record { ty = id; value = c })
          ∙ (λ j. joined (old_items j) (m.more_constants ((ap (λ (t : Types). tree t id) later ∙ is) j) ((constant ∙ (λ i. (one k (here i) (at i)).0)) j) m.no_constants))

  base_stays : (o : Option TypedConst) → IsThere (HasTyped now.growing.arena) o now.reader.walk → IsThere (HasTyped after.growing.arena) o after.reader.walk
  base_stays None broken = whole.lasts broken
  base_stays (Some b) bt = (subst (λ (t : Types). b.ty < length t.types) (sym (same_table now.growing after.growing whole.grows)) bt.0, (whole.grows.constants b.value bt.1).known)

  pub indexing_more : IsIndexing one first after base count (place + 1) more
  indexing_more = subst (IsIndexing one first after base count (place + 1)) (sym pushed) (record {
    goes = goes_two first now after h.goes whole;
    base_there = base_stays base h.base_there;
    all_typed = more_typed part value known keeps;
    place_in = omega (arith, less);
    reads = λ k numbers.
        let far = h.reads k numbers in
        let here = still_numbers first now k h.goes numbers in
        let read_ty = type_read k here in
        let read = reads k (still_numbers now mid k step here) in
        let at : mid.reader.walk ≡ ((ty k).read now.reader.walk).1 = ap (λ (q : Reader). q.walk) read_ty.reader in
        let middle = same_table now.growing mid.growing step.grows in
        let t_is : tree_at mid.growing.arena.table part ≡ ((ty k).read now.reader.walk).0 = ap (λ (t : Types). tree_at t part) middle ∙ read_ty.tree_is in
        let behind_is : after.reader.walk ≡ (one k ((ty k).read now.reader.walk).0 ((ty k).read now.reader.walk).1).1 = read.walk ∙ (λ j. (one k (t_is j) (at j)).1) in
        let next_one = typed_suc (ty k) (one k) first.reader.walk count far.cs (count - (place + 1)) now.reader.walk on
        (subst (λ n. AreTypedSoFar (ty k) (one k) first.reader.walk count far.cs n now.reader.walk) (omega (arith, less)) far.far) in
        record {
          cs = joined far.cs (m.more_constants ((ty k).read now.reader.walk).0 (one k ((ty k).read now.reader.walk).0 ((ty k).read now.reader.walk).1).0 m.no_constants);
          far = subst (λ (w : Walk). AreTypedSoFar (ty k) (one k) first.reader.walk count (joined far.cs (m.more_constants ((ty k).read now.reader.walk).0 (one k ((ty k).read now.reader.walk).0 ((ty k).read now.reader.walk).1).0 m.no_constants)) (count - (place + 1)) w)
              (sym behind_is) next_one;
          kept = λ declared unbroken.
              more_kept k far.cs base part value (far.kept declared) h.base_there known read_ty.tree_is keeps read at (still_declared first mid k (goes_two first now mid h.goes step) declared) unbroken;
        };
  })

-- the list where no rule is broken
pub record EndsIndexing (one : Numbering → Reads) (first now : ModuleReader) (base : Option TypedConst) (count : ℕ) (k : Numbering) (items : List TypedConst) : Type 0 where
  pub walk : now.reader.walk ≡ (typed (ty k) (one k) count first.reader.walk).1
  pub kept : IsDeclared first k → is_broken now.reader.walk ≡ false → AreIndices base now.growing.arena items (typed (ty k) (one k) count first.reader.walk).0

pub indexing_ends : (one : Numbering → Reads) (first now : ModuleReader) (base : Option TypedConst) (count place : ℕ) (items : List TypedConst) (k : Numbering) → IsIndexing one first now base count place items → Numbers first k → (count - place ≡ 0) ⊎ (is_stopped now.reader.walk ≡ true)
    → EndsIndexing one first now base count k items
indexing_ends one first now base count place items k h numbers last =
    let far = h.reads k numbers in
    let all = typed_over (ty k) (one k) first.reader.walk count far.cs (count - place) now.reader.walk last far.far in
    record { walk = sym all.walk; kept = λ declared unbroken. subst (AreIndices base now.growing.arena items) (sym all.values) (far.kept declared unbroken) }

pub indices_keep : (one : Numbering → Reads) (old first now : ModuleReader) (base : Option TypedConst) (count place : ℕ) (items : List TypedConst) (answer : Option (List TypedConst)) → Goes old first → IsIndexing one first now base count place items
    → (b : Bool) → is_broken now.reader.walk ≡ b → answer ≡ cond b None (Some items) → Keeps HasAll old now answer
indices_keep one old first now base count place items answer g h true broken is = rw is (record { goes = goes_two old first now g h.goes; there = broken })
indices_keep one old first now base count place items answer g h false broken is = rw is (record { goes = goes_two old first now g h.goes; there = h.all_typed })

pub indices_read : (one : Numbering → Reads) (old first now : ModuleReader) (base : Option TypedConst) (count : ℕ) (items : List TypedConst) (answer : Option (List TypedConst)) (k : Numbering) → Goes old first → EndsIndexing one first now base count k items
    → count ≡ (next old.reader.walk).0 → first.reader.walk ≡ (next old.reader.walk).1 → (b : Bool) → is_broken now.reader.walk ≡ b → answer ≡ cond b None (Some items)
    → IsRead k (AreIndices base) (typed (ty k) (one k) (next old.reader.walk).0 (next old.reader.walk).1) old now answer
indices_read one old first now base count items answer k g h many at true broken is = rw is (record {
  walk = h.walk ∙ (λ j. (typed (ty k) (one k) (many j) (at j)).1);
  kept = λ declared. broken;
})
indices_read one old first now base count items answer k g h many at false broken is = rw is (record {
  walk = h.walk ∙ (λ j. (typed (ty k) (one k) (many j) (at j)).1);
  kept = λ declared. subst (AreIndices base now.growing.arena items) (λ j. (typed (ty k) (one k) (many j) (at j)).0) (h.kept (still_declared old first k g declared) broken);
})
