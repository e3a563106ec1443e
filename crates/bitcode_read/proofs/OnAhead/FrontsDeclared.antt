-- A record whose front was read, and its entry declared or not.
use Rattle.std.proofs.Common.{◌≡◌, ◌<◌, ◌≤◌, ℕ, zero, suc, Bool, true, false, cond, List, [], ◌∷◌, Option, Some, None, length, slice_get, drop, map, nat_lt, refl, sym, ap, subst, ◌∙◌, arith}
use Rattle.std.specs.Prelude.{IfSome, nat_eq}
use Rattle.std.proofs.lemmas.Bool.{eqb-true, false_from_ne_true, ltb-true, ltb-false}
use Rattle.std.proofs.lemmas.Option.{none-some, slice_get_within}
use Rattle.module_arena.specs.declared.entry.Alias as the_alias
use Rattle.module_arena.specs.declared.entry.Function as the_function
use Rattle.module_arena.specs.declared.entry.LocalName.{LocalName}
use Rattle.module_arena.specs.declared.entry.Variable as the_variable
use Rattle.module_arena.specs.Changes.{with_variable, with_function, with_alias}
use Rattle.module_arena.specs.Known.{KnowsAlias, KnowsFunction, KnowsVariable, counts}
use Rattle.module_arena.specs.Lists.{Lists}
use Rattle.record_table.specs.Fields.{Texts}
use Rattle.record_table.specs.Walk.{going}
use Rattle.record_read.specs.Reader.{Reader, IsBroken, is_broken}
use Rattle.bitcode_read.specs.Head.Fronts.{ReadsAlias, ReadsFunction, ReadsVariable, alias_front, function_front, variable_front}
use Rattle.bitcode_read.specs.declared.head.fronts.VariableFront.{VariableFront}
use Rattle.bitcode_read.specs.declared.head.fronts.FunctionFront.{FunctionFront}
use Rattle.bitcode_read.specs.declared.head.fronts.AliasFront.{AliasFront}
use Rattle.bitcode_read.specs.Ahead.Entries.{DeclaresAlias, DeclaresBy, DeclaresFunction, DeclaresVariable, IsAdded, a_function, a_variable, an_alias, alias_entry, declaring, front_of, function_entry, names_behind, names_for, names_of_place, nothing, used_with, variable_entry, whole_alias, whole_function, whole_variable}
use Rattle.body_read.specs.declared.ahead.ahead.BodyAhead.{BodyAhead}
use Rattle.bitcode_read.specs.Ahead.Bodies.{names_given}
use Rattle.bitcode_read.proofs.OnAhead.Dropped.{drop_none, drop_some}
use Rattle.bitcode_read.proofs.OnAhead.Whole.{added, alias_whole, function_whole, knows_alias, knows_function, knows_variable, refused, variable_whole}

-- ---- a variable

module _ (texts : Texts) (types : ℕ) (old r : Reader) (front : VariableFront) (a : Lists) (listed : types ≡ length a.table.types) (h : ReadsVariable texts types old r front) where
  pub variable_refused : (operands : List ℕ) → old.walk ≡ going operands None → is_broken r.walk ≡ true → DeclaresVariable texts [] 0 operands a false a
  variable_refused operands at broken =
      refused a (with_variable a (variable_entry (front_of (variable_front texts (length a.table.types)) operands).0)) (front_of (variable_front texts (length a.table.types)) operands).0.0 (front_of (variable_front texts (length a.table.types)) operands).1
      (subst IsBroken (ap (λ (q : Reader). q.walk) h.reader ∙ (λ j. ((variable_front texts (listed j)).read (at j)).1)) broken)

  module _ (unbroken : is_broken r.walk ≡ false) (v : the_variable.Variable) (is : Some v ≡ whole_variable front.name front.linkage front.constant front.ty front.alignment) where
    v_is : v ≡ variable_entry ((variable_front texts types).read old.walk).0
    v_is = (variable_whole texts types old r front h unbroken v (sym is)).0

    pub variable_known : KnowsVariable (length a.table.types) (length a.constants) v
    variable_known = subst (λ n. KnowsVariable n (length a.constants) v) listed (knows_variable types (length a.constants) v ((variable_front texts types).read old.walk).0 v_is (variable_whole texts types old r front h unbroken v (sym is)).1)

    pub variable_undefined : v.initialiser ≡ None
    variable_undefined = ap (λ (x : the_variable.Variable). x.initialiser) v_is

    pub variable_added : (operands : List ℕ) → old.walk ≡ going operands None → (new : Lists) (done : Bool) → IsAdded a (with_variable a v) v.name done new → DeclaresVariable texts [] 0 operands a done new
    variable_added operands at new done d =
        let same : v ≡ variable_entry (front_of (variable_front texts (length a.table.types)) operands).0 = v_is ∙ (λ j. variable_entry ((variable_front texts (listed j)).read (at j)).0) in
        added a (with_variable a (variable_entry (front_of (variable_front texts (length a.table.types)) operands).0)) new (front_of (variable_front texts (length a.table.types)) operands).0.0 (front_of (variable_front texts (length a.table.types)) operands).1 done
        (subst (λ (x : the_variable.Variable). IsAdded a (with_variable a x) x.name done new) same d)

-- ---- an alias

module _ (texts : Texts) (types : ℕ) (old r : Reader) (front : AliasFront) (a : Lists) (listed : types ≡ length a.table.types) (h : ReadsAlias texts types old r front) where
  pub alias_refused : (operands : List ℕ) → old.walk ≡ going operands None → is_broken r.walk ≡ true → DeclaresAlias texts [] 0 operands a false a
  alias_refused operands at broken =
      refused a (with_alias a (alias_entry (front_of (alias_front texts (length a.table.types)) operands).0)) (front_of (alias_front texts (length a.table.types)) operands).0.0 (front_of (alias_front texts (length a.table.types)) operands).1
      (subst IsBroken (ap (λ (q : Reader). q.walk) h.reader ∙ (λ j. ((alias_front texts (listed j)).read (at j)).1)) broken)

  module _ (unbroken : is_broken r.walk ≡ false) (x : the_alias.Alias) (is : Some x ≡ whole_alias front.name front.linkage front.ty) where
    x_is : x ≡ alias_entry ((alias_front texts types).read old.walk).0
    x_is = (alias_whole texts types old r front h unbroken x (sym is)).0

    pub alias_untargeted : x.target ≡ None
    alias_untargeted = ap (λ (y : the_alias.Alias). y.target) x_is

    pub alias_known : KnowsAlias (length a.table.types) (counts a) x
    alias_known = subst (λ n. KnowsAlias n (counts a) x) listed (knows_alias types a x alias_untargeted (alias_whole texts types old r front h unbroken x (sym is)).1)

    pub alias_added : (operands : List ℕ) → old.walk ≡ going operands None → (new : Lists) (done : Bool) → IsAdded a (with_alias a x) x.name done new → DeclaresAlias texts [] 0 operands a done new
    alias_added operands at new done d =
        let same : x ≡ alias_entry (front_of (alias_front texts (length a.table.types)) operands).0 = x_is ∙ (λ j. alias_entry ((alias_front texts (listed j)).read (at j)).0) in
        added a (with_alias a (alias_entry (front_of (alias_front texts (length a.table.types)) operands).0)) new (front_of (alias_front texts (length a.table.types)) operands).0.0 (front_of (alias_front texts (length a.table.types)) operands).1 done
        (subst (λ (y : the_alias.Alias). IsAdded a (with_alias a y) y.name done new) same d)

-- ---- a function

none_there : {A : Type 0} (xs : List A) (n : ℕ) → n < length xs → slice_get xs n ≡ None → ⊥
none_there [] n lt at = omega arith
none_there (x ∷ xs) zero lt at = none-some x (sym at)
none_there (x ∷ xs) (suc n) lt at = none_there xs n (omega arith) at

-- behind a function as many lists of names are left as its being defined says
used_names : (all : List (List LocalName)) (used : ℕ) (d : Bool) → drop (used_with d used (length all)) all ≡ names_behind d (drop used all)
used_names all used false = refl
used_names all used true = by (nat_lt used (length all)) refl (slice_get all used) refl
  where
    by : (b : Bool) → nat_lt used (length all) ≡ b → (o : Option (List LocalName)) → slice_get all used ≡ o → drop (cond b (suc used) used) all ≡ names_behind true (drop used all)
    by true lt None at = absurd (none_there all used (ltb-true used (length all) lt) at)
    by true lt (Some x) at = ap (λ l. names_behind true l) (sym (drop_some all used x at))
    by false le None at = drop_none all used at ∙ ap (λ l. names_behind true l) (sym (drop_none all used at))
    by false le (Some x) at = absurd (not_there (slice_get_within all used x at) (ltb-false used (length all) le))
      where
        not_there : used < length all → length all ≤ used → ⊥
        not_there lt ge = omega arith

module _ (texts : Texts) (types : ℕ) (old r : Reader) (front : FunctionFront) (a : Lists) (all : List (List LocalName)) (used : ℕ) (listed : types ≡ length a.table.types) (h : ReadsFunction texts types old r front) (operands : List ℕ) (at : old.walk ≡ going operands None) where
  pub function_refused : is_broken r.walk ≡ true → DeclaresFunction texts all used operands a None a
  function_refused broken =
      let x = front_of (function_front texts (length a.table.types)) operands in
      refused a (with_function a (function_entry (names_for x.0.1.1.0 (drop used all)) x.0)) x.0.0 x.1
      (subst IsBroken (ap (λ (q : Reader). q.walk) h.reader ∙ (λ j. ((function_front texts (listed j)).read (at j)).1)) broken)

  defined_is : front.defined ≡ (front_of (function_front texts (length a.table.types)) operands).0.1.1.0
  defined_is = h.defined ∙ (λ j. ((function_front texts (listed j)).read (at j)).0.1.1.0)

  module _ (unbroken : is_broken r.walk ≡ false) (f : the_function.Function) (is : Some f ≡ whole_function (names_for front.defined (drop used all)) front.name front.linkage front.returns front.variadic front.parameters) where
    f_is : f ≡ function_entry (names_for front.defined (drop used all)) ((function_front texts types).read old.walk).0
    f_is = (function_whole texts types old r front (names_for front.defined (drop used all)) h unbroken f (sym is)).0

    f_same : f ≡ function_entry (names_for (front_of (function_front texts (length a.table.types)) operands).0.1.1.0 (drop used all)) (front_of (function_front texts (length a.table.types)) operands).0
    f_same = f_is ∙ (λ j. function_entry (names_for (defined_is j) (drop used all)) ((function_front texts (listed j)).read (at j)).0)

    function_done : (new : Lists) (now : ℕ) → now ≡ used_with front.defined used (length all) → IsAdded a (with_function a f) f.name true new → DeclaresFunction texts all used operands a (Some now) new
    function_done new now count d = (
      d ∙ ap (λ (g : the_function.Function). with_function a g) f_same,
      ap (λ n. drop n all) count ∙ (used_names all used front.defined ∙ ap (λ b. names_behind b (drop used all)) defined_is),
    )

    function_not : (new : Lists) → IsAdded a (with_function a f) f.name false new → DeclaresFunction texts all used operands a None new
    function_not new d =
        let x = front_of (function_front texts (length a.table.types)) operands in
        added a (with_function a (function_entry (names_for x.0.1.1.0 (drop used all)) x.0)) new x.0.0 x.1 false (subst (λ (g : the_function.Function). IsAdded a (with_function a g) g.name false new) f_same d)

    -- so many bodies are used then, or it was not declared
    pub function_added : (new : Lists) (now : ℕ) (done : Bool) (answer : Option ℕ) → now ≡ used_with front.defined used (length all) → answer ≡ cond done (Some now) None → IsAdded a (with_function a f) f.name done new → DeclaresFunction texts all used operands a answer new
    function_added new now true answer count told d = subst (λ (o : Option ℕ). DeclaresFunction texts all used operands a o new) (sym told) (function_done new now count d)
    function_added new now false answer count told d = subst (λ (o : Option ℕ). DeclaresFunction texts all used operands a o new) (sym told) (function_not new d)

module _ (texts : Texts) (types : ℕ) (old r : Reader) (front : FunctionFront) (a : Lists) (names : List LocalName) (listed : types ≡ length a.table.types) (h : ReadsFunction texts types old r front) (unbroken : is_broken r.walk ≡ false) (f : the_function.Function)
    (is : Some f ≡ whole_function names front.name front.linkage front.returns front.variadic front.parameters) where
  pub function_undefined : f.body ≡ None
  function_undefined = ap (λ (g : the_function.Function). g.body) (function_whole texts types old r front names h unbroken f (sym is)).0

  pub function_known : KnowsFunction (length a.table.types) (length a.constants) f
  function_known =
      let w = function_whole texts types old r front names h unbroken f (sym is) in subst (λ n. KnowsFunction n (length a.constants) f) listed (knows_function types (length a.constants) f function_undefined w.1 w.2)

-- ---- a record by its code

pub record_variable : (texts : Texts) (all : List (List LocalName)) (used code : ℕ) (operands : List ℕ) (a new : Lists) (is : Bool) (now : Option ℕ) → code ≡ 5 → now ≡ cond is (Some used) None → DeclaresVariable texts [] 0 operands a is new
    → DeclaresBy texts all used operands a (declaring code) now new
record_variable texts all used code operands a new true now here count d = subst (λ c. DeclaresBy texts all used operands a (declaring c) now new) (sym here) (subst (λ n. DeclaresBy texts all used operands a a_variable n new) (sym count) (d, refl))
record_variable texts all used code operands a new false now here count d = subst (λ c. DeclaresBy texts all used operands a (declaring c) now new) (sym here) (subst (λ n. DeclaresBy texts all used operands a a_variable n new) (sym count) d)

pub record_alias : (texts : Texts) (all : List (List LocalName)) (used code : ℕ) (operands : List ℕ) (a new : Lists) (is : Bool) (now : Option ℕ) → code ≡ 7 → now ≡ cond is (Some used) None → DeclaresAlias texts [] 0 operands a is new
    → DeclaresBy texts all used operands a (declaring code) now new
record_alias texts all used code operands a new true now here count d = subst (λ c. DeclaresBy texts all used operands a (declaring c) now new) (sym here) (subst (λ n. DeclaresBy texts all used operands a an_alias n new) (sym count) (d, refl))
record_alias texts all used code operands a new false now here count d = subst (λ c. DeclaresBy texts all used operands a (declaring c) now new) (sym here) (subst (λ n. DeclaresBy texts all used operands a an_alias n new) (sym count) d)

pub record_function : (texts : Texts) (all : List (List LocalName)) (used code : ℕ) (operands : List ℕ) (a new : Lists) (now : Option ℕ) → code ≡ 6 → DeclaresFunction texts all used operands a now new → DeclaresBy texts all used operands a (declaring code) now new
record_function texts all used code operands a new now here d = subst (λ c. DeclaresBy texts all used operands a (declaring c) now new) (sym here) d

pub not_code : (code k : ℕ) → (code ≡ k → ⊥) → nat_eq code k ≡ false
not_code code k other = false_from_ne_true (nat_eq code k) (λ e. other (eqb-true code k e))

is_nothing : (code : ℕ) → (code ≡ 5 → ⊥) → (code ≡ 6 → ⊥) → (code ≡ 7 → ⊥) → declaring code ≡ nothing
is_nothing code v f x = λ j. cond (not_code code 5 v j) a_variable (cond (not_code code 6 f j) a_function (cond (not_code code 7 x j) an_alias nothing))

pub record_other : (texts : Texts) (all : List (List LocalName)) (used code : ℕ) (operands : List ℕ) (a : Lists) → (code ≡ 5 → ⊥) → (code ≡ 6 → ⊥) → (code ≡ 7 → ⊥) → DeclaresBy texts all used operands a (declaring code) (Some used) a
record_other texts all used code operands a v f x =
    subst (λ k. DeclaresBy texts all used operands a k (Some used) a) (sym (is_nothing code v f x)) (refl, refl)

-- ---- the names that bodies give

pub names_there : (bodies : List BodyAhead) (place : ℕ) → names_of_place bodies place ≡ names_for true (drop place (map names_given bodies))
names_there [] zero = refl
names_there [] (suc place) = refl
names_there (b ∷ bodies) zero = refl
names_there (b ∷ bodies) (suc place) = names_there bodies place

-- as many are used as before, where one was declared
pub few_where : (is : Bool) (used n : ℕ) (r : Option ℕ) → r ≡ cond is (Some used) None → used ≤ n → IfSome r (λ x. x ≤ n)
few_where true used n r e le = subst (λ (o : Option ℕ). IfSome o (λ x. x ≤ n)) (sym e) le
few_where false used n r e le = subst (λ (o : Option ℕ). IfSome o (λ x. x ≤ n)) (sym e) tt
