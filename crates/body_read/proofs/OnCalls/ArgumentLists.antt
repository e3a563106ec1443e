-- Arguments as a loop reads them: those for parameters, and further ones behind their types.
use Rattle.std.proofs.Common.{◌≡◌, ◌⊎◌, ◌≤◌, ◌<◌, ◌+◌, ◌-◌, ℕ, zero, suc, Bool, true, false, cond, List, [], ◌∷◌, ◌++◌, Option, Some, None, map, drop, slice_get, All, IfSome, inl, inr, refl, sym, ap, subst, ◌∙◌, arith}
use Rattle.std.specs.Prelude.{option_to_list}
use Rattle.std.specs.Option.{option_map}
use Rattle.std.proofs.lemmas.List.{append_assoc, append-nil}
use Rattle.type_table.specs.Tree.{Tree}
use Rattle.module_arena.specs.declared.instruction.Operand.{Operand}
use Rattle.module_arena.specs.Lists.{Lists}
use Rattle.module_arena.specs.Module as m
use Rattle.record_table.specs.Fields.{Numbering}
use Rattle.record_table.specs.Lines.{arguments, arguments_by, typed_value}
use Rattle.record_table.specs.Walk.{Walk, going, stopped, next}
use Rattle.record_read.specs.Reader.{Reader, is_broken, is_stopped}
use Rattle.type_read.specs.declared.arena.module_reader.ModuleReader.{ModuleReader}
use Rattle.type_read.specs.Arena.Kept.{Goes, IsKnownType, IsThere, ReadsType, TakesOnly, tree_at}
use Rattle.type_read.proofs.OnArena.LeavesRead.{goes_takes}
use Rattle.type_read.specs.Arena.Growing.{Growing, Grows}
use Rattle.type_read.specs.Arena.Numbered.{Numbers, IsDeclared}
use Rattle.type_read.proofs.OnArena.Kept.{grows_two}
use Rattle.type_read.proofs.OnArena.Steps.{goes_self, goes_two, still_declared, still_known, still_numbers}
use Rattle.module_arena.specs.declared.instruction.Value.{Value}
use Rattle.record_table.specs.Constants.{value}
use Rattle.body_read.specs.Operands.Found.{Always, Finds, HasOperand, HasOperands, HasValue, both, kept_operand, operand_at, operand_in, operands_in, value_in}
use Rattle.body_read.proofs.OnOperands.Gathered.{more_there, more_kept}
use Rattle.body_read.proofs.OnOperands.Joined.{starting, was_unbroken}
use Rattle.body_read.proofs.OnOperands.Leaves.{type_is}
use Rattle.body_read.proofs.OnOperands.Typed.{operand_found}
use Rattle.body_read.specs.Calls.Calls.{TypesArgument, argument_type}
use Rattle.body_read.proofs.OnCalls.ParameterTypes.{takes_self}

-- an argument: of a parameter of that type, or behind its own type
abbrev pub argument_at : Numbering → Option Tree → Walk → m.Operand × Walk
argument_at k (Some t) w = operand_at k t w
argument_at k None w = (typed_value k).read w

-- ---- the parameters that are left

abbrev first_of : List Tree → Option Tree
first_of [] = None
first_of (t ∷ ts) = Some t

abbrev rest_of : List Tree → List Tree
rest_of [] = []
rest_of (t ∷ ts) = ts

first_at : (place : ℕ) (ts : List Tree) → first_of (drop place ts) ≡ slice_get ts place
first_at zero [] = refl
first_at zero (t ∷ ts) = refl
first_at (suc n) [] = refl
first_at (suc n) (t ∷ ts) = first_at n ts

rest_at : (place : ℕ) (ts : List Tree) → rest_of (drop place ts) ≡ drop (suc place) ts
rest_at zero [] = refl
rest_at zero (t ∷ ts) = refl
rest_at (suc n) [] = refl
rest_at (suc n) (t ∷ ts) = rest_at n ts

pub mapped_at : {A : Type 0} (f : A → Tree) (xs : List A) (place : ℕ) → slice_get (map f xs) place ≡ option_map f (slice_get xs place)
mapped_at f [] place = refl
mapped_at f (x ∷ xs) zero = refl
mapped_at f (x ∷ xs) (suc n) = mapped_at f xs n

-- the parameter at a place is known, where all are
pub parameter_known : (a b : ModuleReader) (items : List (Option ℕ)) (place : ℕ) (x : Option (Option ℕ)) → Goes a b → All (IsKnownType a) items → x ≡ slice_get items place → IfSome x (IsKnownType b)
parameter_known a b items place x g all is = subst (λ (o : Option (Option ℕ)). IfSome o (IsKnownType b)) (sym is) (by items place all)
  where
    by : (ps : List (Option ℕ)) (n : ℕ) → All (IsKnownType a) ps → IfSome (slice_get ps n) (IsKnownType b)
    by [] n h = tt
    by (p ∷ ps) zero h = still_known a b p g (h 0 p (omega arith))
    by (p ∷ ps) (suc n) h = by ps n (λ i d lt. h (suc i) d (omega arith))

pub type_of_parameter : (a : ModuleReader) (x : Option (Option ℕ)) (t : Option ℕ) → x ≡ Some t → IfSome x (IsKnownType a) → TypesArgument (option_map (tree_at a.growing.arena.table) x) a a t
type_of_parameter a x t is known = subst (λ (o : Option (Option ℕ)). TypesArgument (option_map (tree_at a.growing.arena.table) o) a a t) (sym is) (record {
  takes = takes_self a;
  known = subst (λ (o : Option (Option ℕ)). IfSome o (IsKnownType a)) is known;
  tree_is = λ k n. refl;
  walk = λ k n. refl;
})

pub type_in_front : (a b : ModuleReader) (x : Option (Option ℕ)) (t : Option ℕ) → x ≡ None → TakesOnly a b → IsKnownType b t → ((k : Numbering) → Numbers a k → ReadsType k a b t) → TypesArgument (option_map (tree_at a.growing.arena.table) x) a b t
type_in_front a b x t is takes known reads = subst (λ (o : Option (Option ℕ)). TypesArgument (option_map (tree_at a.growing.arena.table) o) a b t) (sym is) (record {
  takes = takes;
  known = known;
  tree_is = type_is a b t takes reads;
  walk = λ k n. ap (λ (r : Reader). r.walk) (reads k n).reader;
})

-- an argument behind its type is read as one
typed_argument : (k : Numbering) (p : Option Tree) (w : Walk) → operand_at k (argument_type k p w).0 (argument_type k p w).1 ≡ argument_at k p w
typed_argument k (Some t) w = refl
typed_argument k None w = refl

pub argument_found : (p : Option Tree) (a b c : ModuleReader) (t : Option ℕ) (v : Option Value) → TypesArgument p a b t → Finds HasValue value_in (λ k. (value k (tree_at b.growing.arena.table t)).read) b c v
    → Finds HasOperand operand_in (λ k. argument_at k p) a c (option_map kept_operand (both t v))
argument_found p a b c t v h found =
    starting (λ k. argument_at k p) a b c (option_map kept_operand (both t v)) (goes_takes a b h.takes) (operand_found b c t v h.known found)
    (λ k n. (λ j. operand_at k (h.tree_is k n j) (h.walk k n j)) ∙ typed_argument k p a.reader.walk)

-- ---- arguments so far

-- these are read, and so many are to come
pub record IsSoFar (k : Numbering) (ts : List Tree) (first : Walk) (count : ℕ) (xs : List m.Operand) (place n : ℕ) (now : Walk) : Type 0 where
  pub values : (arguments_by k count ts first).0 ≡ xs ++ (arguments_by k n (drop place ts) now).0
  pub walk : (arguments_by k count ts first).1 ≡ (arguments_by k n (drop place ts) now).1

-- one argument more
next_of : (k : Numbering) (m : ℕ) (ts : List Tree) (rest : List ℕ) (broken : Option ℕ) → arguments_by k (suc m) ts (going rest broken)
    ≡ ((argument_at k (first_of ts) (going rest broken)).0 ∷ (arguments_by k m (rest_of ts) (argument_at k (first_of ts) (going rest broken)).1).0, (arguments_by k m (rest_of ts) (argument_at k (first_of ts) (going rest broken)).1).1)
unfolding arguments_by
next_of k m [] rest broken = refl
next_of k m (t ∷ ts) rest broken = refl

next_at : (k : Numbering) (m : ℕ) (ts : List Tree) (place : ℕ) (w : Walk) → is_stopped w ≡ false → arguments_by k (suc m) (drop place ts) w
    ≡ ((argument_at k (slice_get ts place) w).0 ∷ (arguments_by k m (drop (suc place) ts) (argument_at k (slice_get ts place) w).1).0, (arguments_by k m (drop (suc place) ts) (argument_at k (slice_get ts place) w).1).1)
next_at k m ts place (going rest broken) on =
    next_of k m (drop place ts) rest broken
    ∙ (λ j. ((argument_at k (first_at place ts j) (going rest broken)).0 ∷ (arguments_by k m (rest_at place ts j) (argument_at k (first_at place ts j) (going rest broken)).1).0, (arguments_by k m (rest_at place ts j) (argument_at k (first_at place ts j) (going rest broken)).1).1))
next_at k m ts place (stopped broken) on = absurd (cc)

one_more : (k : Numbering) (ts : List Tree) (first : Walk) (count : ℕ) (xs : List m.Operand) (place n i : ℕ) (now : Walk) → n ≡ suc i → is_stopped now ≡ false → IsSoFar k ts first count xs place n now
    → IsSoFar k ts first count (xs ++ (argument_at k (slice_get ts place) now).0 ∷ []) (suc place) i (argument_at k (slice_get ts place) now).1
one_more k ts first count xs place n i now is on h =
    let whole : arguments_by k n (drop place ts) now ≡ arguments_by k (suc i) (drop place ts) now = ap (λ j. arguments_by k j (drop place ts) now) is in
    let step = next_at k i ts place now on in
    record {
      values = h.values ∙ (ap (λ (r : List m.Operand × Walk). xs ++ r.0) (whole ∙ step)
          ∙ sym (append_assoc xs ((argument_at k (slice_get ts place) now).0 ∷ []) (arguments_by k i (drop (suc place) ts) (argument_at k (slice_get ts place) now).1).0));
      walk = h.walk ∙ ap (λ (r : List m.Operand × Walk). r.1) (whole ∙ step);
    }

none_left : (k : Numbering) (ts : List Tree) (w : Walk) → arguments_by k 0 ts w ≡ ([], w)
unfolding arguments_by
none_left k ts w = refl

none_known : (k : Numbering) (ts : List Tree) (n : ℕ) (w : Walk) → is_stopped w ≡ true → arguments_by k n ts w ≡ ([], w)
unfolding arguments_by
none_known k ts n (going rest broken) on = absurd (cc)
none_known k ts zero (stopped broken) on = refl
none_known k ts (suc n) (stopped broken) on = refl

no_more : (k : Numbering) (ts : List Tree) (n : ℕ) (w : Walk) → (n ≡ 0) ⊎ (is_stopped w ≡ true) → arguments_by k n ts w ≡ ([], w)
no_more k ts n w (inl none) = ap (λ i. arguments_by k i ts w) none ∙ none_left k ts w
no_more k ts n w (inr on) = none_known k ts n w on

-- the arguments so far, by what indices stand for
pub record AreGiven (k : Numbering) (ts : List Tree) (first now : ModuleReader) (count place : ℕ) (items : List Operand) : Type 0 where
  pub xs : List m.Operand
  pub far : IsSoFar k ts first.reader.walk count xs place (count - place) now.reader.walk
  pub kept : IsDeclared first k → is_broken now.reader.walk ≡ false → Always now.growing (λ a. operands_in k a items ≡ xs)

-- what a loop over them keeps
pub record Gives (ts : List Tree) (first now : ModuleReader) (count place : ℕ) (items : List Operand) : Type 0 where
  pub goes : Goes first now
  pub there : Always now.growing (λ a. HasOperands now.locals a items)
  pub place_in : place ≤ count
  pub reads : (k : Numbering) → Numbers first k → AreGiven k ts first now count place items

pub give_none : (ts : List Tree) (first : ModuleReader) (count : ℕ) (items : List Operand) → items ≡ [] → Gives ts first first count 0 items
give_none ts first count items none = subst (Gives ts first first count 0) (sym none) (record {
  goes = goes_self first;
  there = λ later g i d lt. absurd (omega arith);
  place_in = omega arith;
  reads = λ k n. record { xs = []; far = start k (count - 0) (omega arith); kept = λ declared unbroken later g. refl };
})
  where
    start : (k : Numbering) (n : ℕ) → n ≡ count → IsSoFar k ts first.reader.walk count [] 0 n first.reader.walk
    start k n is = subst (λ i. IsSoFar k ts first.reader.walk count [] 0 i first.reader.walk) (sym is) (record { values = refl; walk = refl })

pub give_more : (ts : List Tree) (first now after : ModuleReader) (count place : ℕ) (items more_items : List Operand) (item : Option Operand) → Gives ts first now count place items → place < count → is_stopped now.reader.walk ≡ false
    → Finds HasOperand operand_in (λ k. argument_at k (slice_get ts place)) now after item → more_items ≡ items ++ option_to_list item → Gives ts first after count (place + 1) more_items
give_more ts first now after count place items more_items item h less on f pushed = subst (Gives ts first after count (place + 1)) (sym pushed) (record {
  goes = goes_two first now after h.goes f.goes;
  there = λ later g. more_there HasOperand operand_in (λ k. argument_at k (slice_get ts place)) now after items item h.there f later g;
  place_in = omega (arith, less);
  reads = λ k n.
      let r = h.reads k n in
      let numbers = still_numbers first now k h.goes n in
      let x = argument_at k (slice_get ts place) now.reader.walk in
      let far = one_more k ts first.reader.walk count r.xs place (count - place) (count - (place + 1)) now.reader.walk (omega (arith, less)) on r.far in
      record {
        xs = r.xs ++ x.0 ∷ [];
        far = subst (λ (w : Walk). IsSoFar k ts first.reader.walk count (r.xs ++ x.0 ∷ []) (place + 1) (count - (place + 1)) w) (sym (f.walk k numbers))
            (subst (λ i. IsSoFar k ts first.reader.walk count (r.xs ++ x.0 ∷ []) i (count - (place + 1)) x.1) (omega arith) far);
        kept = λ declared unbroken later g.
            more_kept (operand_in k later.arena) items item x.0 r.xs
            (r.kept declared (was_unbroken now after f.goes unbroken) later (grows_two now.growing after.growing later f.goes.grows g))
            (f.kept k numbers (still_declared first now k h.goes declared) unbroken later g);
      };
})

pub give_all : (ts : List Tree) (old first now : ModuleReader) (count place : ℕ) (items : List Operand) (found : Option (List Operand)) → Goes old first → count ≡ (next old.reader.walk).0 → first.reader.walk ≡ (next old.reader.walk).1
    → Gives ts first now count place items → (count - place ≡ 0) ⊎ (is_stopped now.reader.walk ≡ true) → found ≡ cond (is_broken now.reader.walk) None (Some items)
    → Finds HasOperands operands_in (λ k. (arguments k ts).read) old now found
give_all ts old first now count place items found g many_is at h last is = record {
  goes = goes_two old first now g h.goes;
  there = λ later w. there (is_broken now.reader.walk) refl found is later w;
  walk = λ k n.
      let r = h.reads k (still_numbers old first k g n) in
      sym (r.far.walk ∙ ap (λ (x : List m.Operand × Walk). x.1) (no_more k (drop place ts) (count - place) now.reader.walk last)) ∙ (λ j. (arguments_by k (many_is j) ts (at j)).1);
  kept = λ k n declared unbroken later w.
      let r = h.reads k (still_numbers old first k g n) in
      kept k later.arena (arguments_by k (next old.reader.walk).0 ts (next old.reader.walk).1).0 (is ∙ ap (λ b. cond b None (Some items)) unbroken)
      (r.kept (still_declared old first k g declared) unbroken later w
      ∙ (sym (r.far.values ∙ (ap (λ (x : List m.Operand × Walk). r.xs ++ x.0) (no_more k (drop place ts) (count - place) now.reader.walk last) ∙ append-nil r.xs)) ∙ (λ j. (arguments_by k (many_is j) ts (at j)).0)));
}
  where
    there : (b : Bool) → is_broken now.reader.walk ≡ b → (x : Option (List Operand)) → x ≡ cond (is_broken now.reader.walk) None (Some items) → (later : Growing) → Grows now.growing later → IsThere (HasOperands now.locals later.arena) x now.reader.walk
    there true e x same later w =
        let none : x ≡ None = same ∙ ap (λ b. cond b None (Some items)) e in
        subst (λ (y : Option (List Operand)). IsThere (HasOperands now.locals later.arena) y now.reader.walk) (sym none) e
    there false e x same later w =
        let some : x ≡ Some items = same ∙ ap (λ b. cond b None (Some items)) e in
        subst (λ (y : Option (List Operand)). IsThere (HasOperands now.locals later.arena) y now.reader.walk) (sym some) (h.there later w)

    kept : (k : Numbering) (a : Lists) (xs : List m.Operand) → found ≡ Some items → operands_in k a items ≡ xs → option_map (operands_in k a) found ≡ Some xs
    kept k a xs some whole = ap (λ (x : Option (List Operand)). option_map (operands_in k a) x) some ∙ ap (λ (ys : List m.Operand). Some ys) whole
