-- Lists of constants as loops read them: what is read so far, and what is still to come.
use Rattle.std.proofs.Common.{◌≡◌, ◌⊎◌, ◌≤◌, ◌<◌, ◌+◌, ◌-◌, ℕ, zero, suc, Bool, true, false, List, [], ◌∷◌, ◌++◌, Option, Some, None, length, get_or, All, IfSome, inl, inr, refl, sym, ap, subst, ◌∙◌, arith}
use Rattle.std.specs.Prelude.{option_to_list, is_some}
use Rattle.std.proofs.lemmas.List.{append-nil}
use Rattle.std.proofs.lemmas.List.Elements.{All-push}
use Rattle.type_table.specs.Tree.{Tree, Structs, void}
use Rattle.type_table.specs.Types.{Types, tree, trees}
use Rattle.module_arena.specs.declared.constant.Brackets as the_brackets
use Rattle.module_arena.specs.declared.constant.Const.TheVariants as const
use Rattle.module_arena.specs.declared.constant.TypedConst.{TypedConst}
use Rattle.module_arena.specs.Known.{KnowsConst, counts}
use Rattle.module_arena.specs.Lists.{Lists}
use Rattle.module_arena.specs.Module as m
use Rattle.module_arena.specs.View.{brackets_view, constants_at, constants_of}
use Rattle.record_table.specs.Walk.{Walk, going, stopped, ask, next}
use Rattle.record_table.specs.Constants.{Parts, Reads, parts, parts_of, first_part, later_parts, has_parts, brackets_of, listed}
use Rattle.record_table.specs.Fields.{Numbering}
use Rattle.record_read.specs.Reader.{IsBroken, is_broken, is_stopped}
use Rattle.type_read.specs.declared.arena.module_reader.ModuleReader.{ModuleReader}
use Rattle.type_read.specs.Arena.Growing.{Growing, Grows}
use Rattle.type_read.specs.Arena.Numbered.{Numbers, IsDeclared}
use Rattle.type_read.specs.Arena.Kept.{Goes, Keeps, KeepsConstant, IsRead, HasConstant, tree_at}
use Rattle.type_read.specs.Arena.Growing.{IsConstant}
use Rattle.type_read.specs.Arena.ListParts.{nth_part, parts_at}
use Rattle.type_read.proofs.OnArena.Kept.{same_table}
use Rattle.type_read.proofs.OnArena.Lasting.{vain_broken}
use Rattle.type_read.proofs.OnArena.Steps.{goes_self, goes_two, kept_read, still_declared, still_numbers}
use Rattle.body_read.specs.Constants.Made.{HasTyped, typed_of}

-- ---- constants behind one another

abbrev pub joined : m.Constants → m.Constants → m.Constants
joined m.no_constants ds = ds
joined (m.more_constants t c cs) ds = m.more_constants t c (joined cs ds)

pub joined_none : (cs : m.Constants) → joined cs m.no_constants ≡ cs
joined_none m.no_constants = refl
joined_none (m.more_constants t c cs) = ap (m.more_constants t c) (joined_none cs)

pub joined_two : (ds bs cs : m.Constants) → joined (joined ds bs) cs ≡ joined ds (joined bs cs)
joined_two m.no_constants bs cs = refl
joined_two (m.more_constants t c ds) bs cs = ap (m.more_constants t c) (joined_two ds bs cs)

-- these parts are read, and so many are to come
pub record ArePartsSoFar (one : Reads) (first : Walk) (count : ℕ) (ps : Parts) (cs : m.Constants) (place n : ℕ) (now : Walk) : Type 0 where
  pub values : (parts one count ps first).0 ≡ joined cs (parts one n (nth_part place ps) now).0
  pub walk : (parts one count ps first).1 ≡ (parts one n (nth_part place ps) now).1

nth_later : (place : ℕ) (ps : Parts) → nth_part (suc place) ps ≡ later_parts (nth_part place ps)
nth_later zero ps = refl
nth_later (suc place) ps = nth_later place (later_parts ps)

parts_going : (one : Reads) (first : Walk) (count : ℕ) (ps : Parts) (cs : m.Constants) (place n : ℕ) (rest : List ℕ) (broken : Option ℕ)
    → ArePartsSoFar one first count ps cs place (suc n) (going rest broken)
    → ArePartsSoFar one first count ps (joined cs (m.more_constants (first_part (nth_part place ps)) (one (first_part (nth_part place ps)) (going rest broken)).0 m.no_constants)) (suc place) n
    (one (first_part (nth_part place ps)) (going rest broken)).1
unfolding parts
parts_going one first count ps cs place n rest broken h =
    let t = first_part (nth_part place ps) in
    let c = one t (going rest broken) in
    let later = nth_later place ps in
    record {
      values = h.values ∙ (sym (joined_two cs (m.more_constants t c.0 m.no_constants) (parts one n (later_parts (nth_part place ps)) c.1).0)
          ∙ ap (λ (qs : Parts). joined (joined cs (m.more_constants t c.0 m.no_constants)) (parts one n qs c.1).0) (sym later));
      walk = h.walk ∙ ap (λ (qs : Parts). (parts one n qs c.1).1) (sym later);
    }

parts_suc : (one : Reads) (first : Walk) (count : ℕ) (ps : Parts) (cs : m.Constants) (place n : ℕ) (now : Walk) → is_stopped now ≡ false → ArePartsSoFar one first count ps cs place (suc n) now
    → ArePartsSoFar one first count ps (joined cs (m.more_constants (first_part (nth_part place ps)) (one (first_part (nth_part place ps)) now).0 m.no_constants)) (suc place) n (one (first_part (nth_part place ps)) now).1
parts_suc one first count ps cs place n (going rest broken) goes h = parts_going one first count ps cs place n rest broken h
parts_suc one first count ps cs place n (stopped broken) goes h = absurd (cc)

-- all are read
pub record AreAllParts (one : Reads) (first : Walk) (count : ℕ) (ps : Parts) (cs : m.Constants) (now : Walk) : Type 0 where
  pub values : (parts one count ps first).0 ≡ cs
  pub walk : (parts one count ps first).1 ≡ now

parts_zero : (one : Reads) (first : Walk) (count : ℕ) (ps : Parts) (cs : m.Constants) (place : ℕ) (now : Walk) → ArePartsSoFar one first count ps cs place zero now → AreAllParts one first count ps cs now
unfolding parts
parts_zero one first count ps cs place now h = record { values = h.values ∙ joined_none cs; walk = h.walk }

parts_stopped : (one : Reads) (first : Walk) (count : ℕ) (ps : Parts) (cs : m.Constants) (place n : ℕ) (now : Walk) → is_stopped now ≡ true → ArePartsSoFar one first count ps cs place n now → AreAllParts one first count ps cs now
unfolding parts
parts_stopped one first count ps cs place n (going rest broken) stops h = absurd (cc)
parts_stopped one first count ps cs place zero (stopped broken) stops h = record { values = h.values ∙ joined_none cs; walk = h.walk }
parts_stopped one first count ps cs place (suc n) (stopped broken) stops h = record { values = h.values ∙ joined_none cs; walk = h.walk }

parts_over : (one : Reads) (first : Walk) (count : ℕ) (ps : Parts) (cs : m.Constants) (place n : ℕ) (now : Walk) → (n ≡ 0) ⊎ (is_stopped now ≡ true) → ArePartsSoFar one first count ps cs place n now → AreAllParts one first count ps cs now
parts_over one first count ps cs place n now (inl none) h = parts_zero one first count ps cs place now (subst (λ k. ArePartsSoFar one first count ps cs place k now) none h)
parts_over one first count ps cs place n now (inr stops) h = parts_stopped one first count ps cs place n now stops h

-- ---- constants of the arena with their types

pub at_push : (ts : List Tree) (cs : List m.Constant) (items : List TypedConst) (x : TypedConst) → constants_at ts cs (items ++ x ∷ []) ≡ joined (constants_at ts cs items) (constants_at ts cs (x ∷ []))
at_push ts cs [] x = refl
at_push ts cs (i ∷ items) x = ap (λ (ds : m.Constants). m.more_constants (get_or ts i.ty void) (get_or cs i.value m.Null) ds) (at_push ts cs items x)

-- an arena that grew has them still
pub typed_stay : (a b : Growing) (items : List TypedConst) → Grows a b → All (HasTyped a.arena) items → All (HasTyped b.arena) items
typed_stay a b items g all k d lt =
    let here = all k d lt in
    (subst (λ (t : Types). (get_or items k d).ty < length t.types) (sym (same_table a b g)) here.0, (g.constants (get_or items k d).value here.1).known)

pub constants_stay : (a b : Growing) (items : List TypedConst) → Grows a b → All (HasTyped a.arena) items
    → constants_at (trees b.arena.table) (constants_of b.arena) items ≡ constants_at (trees a.arena.table) (constants_of a.arena) items
constants_stay a b [] g all = refl
constants_stay a b (p ∷ items) g all =
    let here = all 0 p (omega arith) in
    let value = (g.constants p.value here.1).constant in
    let table = same_table a b g in
    λ j. m.more_constants (tree (table j) p.ty) (value j) (constants_stay a b items g (λ k d lt. all (suc k) d (omega arith)) j)

-- ---- a list as it is read

-- the parts so far, by what indices stand for
pub record AreListed (k : Numbering) (one : Reads) (first now : ModuleReader) (ty : Option ℕ) (count place : ℕ) (items : List TypedConst) : Type 0 where
  pub cs : m.Constants
  pub far : ArePartsSoFar one first.reader.walk count (parts_at first.growing.arena.table ty) cs place (count - place) now.reader.walk
  pub kept : IsDeclared first k → is_broken now.reader.walk ≡ false → constants_at (trees now.growing.arena.table) (constants_of now.growing.arena) items ≡ cs

-- what a loop over the parts keeps
pub record IsListing (one : Numbering → Reads) (first now : ModuleReader) (ty : Option ℕ) (count place : ℕ) (items : List TypedConst) : Type 0 where
  pub goes : Goes first now
  pub typed : All (HasTyped now.growing.arena) items
  pub place_in : place ≤ count
  pub reads : (k : Numbering) → Numbers first k → AreListed k (one k) first now ty count place items

pub listing_starts : (one : Numbering → Reads) (first : ModuleReader) (ty : Option ℕ) (count : ℕ) (items : List TypedConst) → items ≡ [] → IsListing one first first ty count 0 items
listing_starts one first ty count items none = subst (IsListing one first first ty count 0) (sym none) (record {
  goes = goes_self first;
  typed = λ k d lt. absurd (omega arith);
  place_in = omega arith;
  reads = λ k h. record { cs = m.no_constants; far = start (one k) (count - 0) (omega arith); kept = λ declared unbroken. refl };
})
  where
    start : (inner : Reads) (n : ℕ) → n ≡ count → ArePartsSoFar inner first.reader.walk count (parts_at first.growing.arena.table ty) m.no_constants 0 n first.reader.walk
    start inner n is = subst (λ i. ArePartsSoFar inner first.reader.walk count (parts_at first.growing.arena.table ty) m.no_constants 0 i first.reader.walk) (sym is) (record { values = refl; walk = refl })

module _ (one : Numbering → Reads) (first now after : ModuleReader) (ty part value : Option ℕ) (count place : ℕ) (items more : List TypedConst) (h : IsListing one first now ty count place items)
    (less : place < count) (on : is_stopped now.reader.walk ≡ false) (part_is : tree_at now.growing.arena.table part ≡ first_part (nth_part place (parts_at now.growing.arena.table ty)))
    (known : IfSome part (λ id. id < length now.growing.arena.table.types)) (part_there : is_broken now.reader.walk ≡ false → is_some part ≡ true)
    (keeps : Keeps HasConstant now after value) (reads : (k : Numbering) → Numbers now k → IsRead k IsConstant (one k (tree_at now.growing.arena.table part) now.reader.walk) now after value)
    (pushed : more ≡ items ++ option_to_list (typed_of part value)) where
  table : now.growing.arena.table ≡ first.growing.arena.table
  table = same_table first.growing now.growing h.goes.grows

  later : after.growing.arena.table ≡ now.growing.arena.table
  later = same_table now.growing after.growing keeps.goes.grows

  more_typed : (p v : Option ℕ) → IfSome p (λ id. id < length now.growing.arena.table.types) → Keeps HasConstant now after v → All (HasTyped after.growing.arena) (items ++ option_to_list (typed_of p v))
  more_typed None v k g = subst (All (HasTyped after.growing.arena)) (sym (append-nil items)) (typed_stay now.growing after.growing items keeps.goes.grows h.typed)
  more_typed (Some id) None k g = subst (All (HasTyped after.growing.arena)) (sym (append-nil items)) (typed_stay now.growing after.growing items keeps.goes.grows h.typed)
  more_typed (Some id) (Some c) k g =
      All-push (HasTyped after.growing.arena) items (record { ty = id; value = c }) (typed_stay now.growing after.growing items keeps.goes.grows h.typed)
      (subst (λ (t : Types). id < length t.types) (sym later) k, g.there)

  -- what is kept with the part that was read
  more_kept : (k : Numbering) (far : AreListed k (one k) first now ty count place items) (p v : Option ℕ) → (is_broken now.reader.walk ≡ false → is_some p ≡ true) → tree_at now.growing.arena.table p ≡ first_part (nth_part place (parts_at now.growing.arena.table ty))
      → Keeps HasConstant now after v → IsRead k IsConstant (one k (tree_at now.growing.arena.table p) now.reader.walk) now after v → IsDeclared first k → is_broken after.reader.walk ≡ false
      → constants_at (trees after.growing.arena.table) (constants_of after.growing.arena) (items ++ option_to_list (typed_of p v))
      ≡ joined far.cs (m.more_constants (first_part (nth_part place (parts_at now.growing.arena.table ty))) (one k (first_part (nth_part place (parts_at now.growing.arena.table ty))) now.reader.walk).0 m.no_constants)
  more_kept k far p v there is g r declared unbroken = by p v there is g r (was (is_broken now.reader.walk) refl)
    where
      was : (b : Bool) → is_broken now.reader.walk ≡ b → is_broken now.reader.walk ≡ false
      was false e = e
      was true e = let broken : is_broken after.reader.walk ≡ true = keeps.goes.lasts e in absurd (cc)

      by : (p v : Option ℕ) → (is_broken now.reader.walk ≡ false → is_some p ≡ true) → tree_at now.growing.arena.table p ≡ first_part (nth_part place (parts_at now.growing.arena.table ty)) → Keeps HasConstant now after v
          → IsRead k IsConstant (one k (tree_at now.growing.arena.table p) now.reader.walk) now after v → is_broken now.reader.walk ≡ false
          → constants_at (trees after.growing.arena.table) (constants_of after.growing.arena) (items ++ option_to_list (typed_of p v))
          ≡ joined far.cs (m.more_constants (first_part (nth_part place (parts_at now.growing.arena.table ty))) (one k (first_part (nth_part place (parts_at now.growing.arena.table ty))) now.reader.walk).0 m.no_constants)
      by None v there is g r before = let some : false ≡ true = there before in absurd (cc)
      by (Some id) None there is g r before = let broken : is_broken after.reader.walk ≡ true = g.there in absurd (cc)
      by (Some id) (Some c) there is g r before =
          let constant = (r.kept (still_declared first now k h.goes declared)).constant in
          at_push (trees after.growing.arena.table) (constants_of after.growing.arena) items (record { ty = id; value = c })
          ∙ (λ j. joined ((constants_stay now.growing after.growing items keeps.goes.grows h.typed ∙ far.kept declared before) j)
          (m.more_constants ((ap (λ (t : Types). tree t id) later ∙ is) j) ((constant ∙ ap (λ (t : Tree). (one k t now.reader.walk).0) is) j) m.no_constants))

  pub listing_more : IsListing one first after ty count (place + 1) more
  listing_more = subst (IsListing one first after ty count (place + 1)) (sym pushed) (record {
    goes = goes_two first now after h.goes keeps.goes;
    typed = more_typed part value known keeps;
    place_in = omega (arith, less);
    reads = λ k numbers.
        let far = h.reads k numbers in
        let read = reads k (still_numbers first now k h.goes numbers) in
        let ps = parts_at first.growing.arena.table ty in
        let same : parts_at now.growing.arena.table ty ≡ ps = ap (λ (t : Types). parts_at t ty) table in
        let next_one = parts_suc (one k) first.reader.walk count ps far.cs place (count - (place + 1)) now.reader.walk on
        (subst (λ n. ArePartsSoFar (one k) first.reader.walk count ps far.cs place n now.reader.walk) (omega (arith, less)) far.far) in
        let t_is : tree_at now.growing.arena.table part ≡ first_part (nth_part place ps) = part_is ∙ ap (λ (qs : Parts). first_part (nth_part place qs)) same in
        let at : after.reader.walk ≡ (one k (first_part (nth_part place ps)) now.reader.walk).1 = read.walk ∙ ap (λ (t : Tree). (one k t now.reader.walk).1) t_is in
        let suc_is : suc place ≡ place + 1 = omega arith in
        let behind : ArePartsSoFar (one k) first.reader.walk count ps (joined far.cs (m.more_constants (first_part (nth_part place ps)) (one k (first_part (nth_part place ps)) now.reader.walk).0 m.no_constants)) (place + 1) (count - (place + 1)) after.reader.walk =
        subst (λ (w : Walk). ArePartsSoFar (one k) first.reader.walk count ps (joined far.cs (m.more_constants (first_part (nth_part place ps)) (one k (first_part (nth_part place ps)) now.reader.walk).0 m.no_constants)) (place + 1) (count - (place + 1)) w) (sym at)
        (subst (λ i. ArePartsSoFar (one k) first.reader.walk count ps (joined far.cs (m.more_constants (first_part (nth_part place ps)) (one k (first_part (nth_part place ps)) now.reader.walk).0 m.no_constants)) i (count - (place + 1)) (one k (first_part (nth_part place ps)) now.reader.walk).1) suc_is next_one) in
        record {
          cs = joined far.cs (m.more_constants (first_part (nth_part place ps)) (one k (first_part (nth_part place ps)) now.reader.walk).0 m.no_constants);
          far = behind;
          kept = λ declared unbroken.
              more_kept k far part value part_there part_is keeps read declared unbroken
              ∙ ap (λ (qs : Parts). joined far.cs (m.more_constants (first_part (nth_part place qs)) (one k (first_part (nth_part place qs)) now.reader.walk).0 m.no_constants)) same;
        };
  })

-- all parts are read
pub listing_ends : (one : Numbering → Reads) (first now : ModuleReader) (ty : Option ℕ) (count place : ℕ) (items : List TypedConst) (k : Numbering) → IsListing one first now ty count place items → Numbers first k → (count - place ≡ 0) ⊎ (is_stopped now.reader.walk ≡ true)
    → (now.reader.walk ≡ (parts (one k) count (parts_at first.growing.arena.table ty) first.reader.walk).1)
    × (IsDeclared first k → is_broken now.reader.walk ≡ false → constants_at (trees now.growing.arena.table) (constants_of now.growing.arena) items ≡ (parts (one k) count (parts_at first.growing.arena.table ty) first.reader.walk).0)
listing_ends one first now ty count place items k h numbers last =
    let far = h.reads k numbers in
    let all = parts_over (one k) first.reader.walk count (parts_at first.growing.arena.table ty) far.cs place (count - place) now.reader.walk last far.far in
    (sym all.walk, λ declared unbroken. far.kept declared unbroken ∙ sym all.values)

-- a rule that was asked in front holds as long as none is broken
pub fits_still : (first now : ModuleReader) (w : Walk) (fits : Bool) → first.reader.walk ≡ ask 6 fits w → (is_stopped first.reader.walk ≡ true → is_broken first.reader.walk ≡ true) → (IsBroken first.reader.walk → IsBroken now.reader.walk) → is_broken now.reader.walk ≡ false → fits ≡ true
fits_still first now w true at stops lasts unbroken = refl
fits_still first now w false at stops lasts unbroken = let broken : is_broken now.reader.walk ≡ true = lasts (vain_broken 6 w first.reader.walk at stops) in absurd (cc)

pub knows_list : (a : Lists) (round : the_brackets.Brackets) (items : List TypedConst) → All (HasTyped a) items → KnowsConst (length a.table.types) (counts a) (length a.constants) (const.Aggregate round items)
knows_list a round items all = record {
  types_known = λ k d lt. absurd (omega arith);
  typed_known = all;
  globals_known = λ k d lt. absurd (omega arith);
}

-- the whole list
pub list_read : (k : Numbering) (one : Numbering → Reads) (m0 first now new : ModuleReader) (t : Option ℕ) (count place : ℕ) (items : List TypedConst) (round : the_brackets.Brackets) (fits : Bool) (answer : Option ℕ) → Numbers m0 k → Goes m0 first
    → count ≡ (next m0.reader.walk).0 → fits ≡ has_parts (parts_at m0.growing.arena.table t) count → first.reader.walk ≡ ask 6 fits (next m0.reader.walk).1 → IsListing one first now t count place items → (count - place ≡ 0) ⊎ (is_stopped now.reader.walk ≡ true)
    → brackets_view round ≡ brackets_of (parts_at now.growing.arena.table t) → KeepsConstant now (const.Aggregate round items) new answer → IsRead k IsConstant (listed k (one k) (tree_at m0.growing.arena.table t) m0.reader.walk) m0 new answer
list_read k one m0 first now new t count place items round fits answer numbers g many fit at h last round_is made =
    let t0 = same_table m0.growing first.growing g.grows in
    let t1 : now.growing.arena.table ≡ m0.growing.arena.table = same_table first.growing now.growing h.goes.grows ∙ t0 in
    let ps = parts_of k.structs (tree_at m0.growing.arena.table t) in
    let here : parts_at m0.growing.arena.table t ≡ ps = ap (λ (s : Structs). parts_of s (tree_at m0.growing.arena.table t)) (sym numbers.structs_are) in
    let walk_is : first.reader.walk ≡ ask 6 (has_parts ps (next m0.reader.walk).0) (next m0.reader.walk).1 = at ∙ ap (λ b. ask 6 b (next m0.reader.walk).1) (fit ∙ (λ j. has_parts (here j) (many j))) in
    let parts_first : parts_at first.growing.arena.table t ≡ ps = ap (λ (x : Types). parts_at x t) t0 ∙ here in
    let all = listing_ends one first now t count place items k h (still_numbers m0 first k g numbers) last in
    kept_read k m0 now new (const.Aggregate round items) answer (m.Aggregate (brackets_of ps) (parts (one k) (next m0.reader.walk).0 ps (ask 6 (has_parts ps (next m0.reader.walk).0) (next m0.reader.walk).1)).0)
    (parts (one k) (next m0.reader.walk).0 ps (ask 6 (has_parts ps (next m0.reader.walk).0) (next m0.reader.walk).1)).1
    (all.0 ∙ (λ j. (parts (one k) (many j) (parts_first j) (walk_is j)).1)) made
    (λ unbroken declared.
    (λ j. m.Aggregate ((round_is ∙ ap (λ (x : Types). brackets_of (parts_at x t)) t1 ∙ ap brackets_of here) j) (all.1 (still_declared m0 first k g declared) unbroken j))
    ∙ (λ j. m.Aggregate (brackets_of ps) (parts (one k) (many j) (parts_first j) (walk_is j)).0))
