-- The functions of a module that were read, one by one.
use Rattle.std.proofs.Common.{◌≡◌, ◌<◌, ◌+◌, ℕ, suc, Bool, true, false, List, [], ◌∷◌, ◌++◌, length, map, slice_get, Option, Some, None, is_some, All, refl, sym, ap, subst, ◌∙◌, arith}
use Rattle.std.proofs.lemmas.List.Elements.{All-head, All-tail}
use Rattle.type_table.specs.Types.{trees}
use Rattle.module_arena.specs.declared.entry.Body as the_body
use Rattle.module_arena.specs.declared.entry.Function as the_function
use Rattle.module_arena.specs.declared.entry.LocalName as the_local
use Rattle.module_arena.specs.declared.entry.Parameter as the_parameter
use Rattle.module_arena.specs.Changes.{function_in}
use Rattle.module_arena.specs.Known.{KnowsBody, KnowsFunction}
use Rattle.module_arena.specs.Lists.{Lists}
use Rattle.module_arena.specs.Module as m
use Rattle.module_arena.specs.View.{body_view, constants_of, parameter_view, type_at}
use Rattle.record_table.specs.Bodies.{Begun}
use Rattle.record_table.specs.Records.{first_due, give_body, with_body}
use Rattle.type_read.specs.Arena.Growing.{Growing, Grows}
use Rattle.bitcode_read.specs.Ahead.Entries.{names_behind, names_for}
use Rattle.bitcode_read.specs.Holding.Holding.{Suits, defined_by}
use Rattle.record_read.specs.Order.Due.{due_at}
use Rattle.bitcode_read.specs.Sofar.{AreFunctions, IsDeclaration, IsDefined, IsDue, counts_due, head_of, parameter_names}
use Rattle.bitcode_read.proofs.Growing.{always_later}

-- ---- later

defined_later : (base : Lists) (g h : Growing) (D : Type 0) (f : the_function.Function) (b : the_body.Body) (r : Bool × m.Function) → Grows g h → IsDefined base g D f b r → IsDefined base h D f b r
defined_later base g h D f b r grows d = record {
  not_due = d.not_due;
  known = always_later g h (λ a. KnowsBody (length a.table.types) (length a.constants) (length f.parameters) b) grows d.known;
  is = λ all. always_later g h (λ a. record (head_of base f) { body = Some (body_view (trees a.table) (constants_of a) (parameter_names f) b) } ≡ r.1) grows (d.is all);
}

module _ (base : Lists) (g h : Growing) (D : Type 0) (later : List (List the_local.LocalName)) (grows : Grows g h) where
  pub functions_later : (fs : List the_function.Function) (ds : List Bool) (bodies : List the_body.Body) (names : List (List the_local.LocalName)) (rs : List (Bool × m.Function))
      → AreFunctions base g D later fs ds bodies names rs → AreFunctions base h D later fs ds bodies names rs
  functions_later [] [] [] names [] a = a
  functions_later [] [] [] names (r ∷ rs) a = absurd a
  functions_later [] [] (b ∷ bodies) names rs a = absurd a
  functions_later [] (d ∷ ds) bodies names rs a = absurd a
  functions_later (f ∷ fs) [] bodies names rs a = absurd a
  functions_later (f ∷ fs) (false ∷ ds) bodies names [] a = absurd a
  functions_later (f ∷ fs) (true ∷ ds) [] names [] a = absurd a
  functions_later (f ∷ fs) (true ∷ ds) (b ∷ bodies) names [] a = absurd a
  functions_later (f ∷ fs) (false ∷ ds) bodies names (r ∷ rs) a = (a.0, functions_later fs ds bodies names rs a.1)
  functions_later (f ∷ fs) (true ∷ ds) (b ∷ bodies) names (r ∷ rs) a = (defined_later base g h D f b r grows a.0, functions_later fs ds bodies names rs a.1)
  functions_later (f ∷ fs) (true ∷ ds) [] names (r ∷ rs) a = (a.0, functions_later fs ds [] (names_behind true names) rs a.1)

-- ---- one more

-- a function more is a declaration, or its body is due
abbrev pub IsMore : Lists → List (List the_local.LocalName) → List (List the_local.LocalName) → the_function.Function → Bool → Bool × m.Function → Type 0
IsMore base later after f false r = IsDeclaration base f r × (after ≡ later)
IsMore base later after f true r = IsDue base (names_for true later) f r × (after ≡ names_behind true later)

module _ (base : Lists) (g : Growing) (D : Type 0) (later after : List (List the_local.LocalName)) (f : the_function.Function) (d : Bool) (r : Bool × m.Function) (more : IsMore base later after f d r) where
  last_one : (d : Bool) → IsMore base later after f d r → (names : List (List the_local.LocalName)) → names ≡ later → AreFunctions base g D after (f ∷ []) (d ∷ []) [] names (r ∷ [])
  last_one false x names same = (x.0, same ∙ sym x.1)
  last_one true x names same = (subst (λ l. IsDue base (names_for true l) f r) (sym same) x.0, ap (λ l. names_behind true l) same ∙ sym x.1)

  pub functions_more : (fs : List the_function.Function) (ds : List Bool) (bodies : List the_body.Body) (names : List (List the_local.LocalName)) (rs : List (Bool × m.Function))
      → AreFunctions base g D later fs ds bodies names rs → AreFunctions base g D after (fs ++ f ∷ []) (ds ++ d ∷ []) bodies names (rs ++ r ∷ [])
  functions_more [] [] [] names [] a = last_one d more names a
  functions_more [] [] [] names (s ∷ rs) a = absurd a
  functions_more [] [] (b ∷ bodies) names rs a = absurd a
  functions_more [] (e ∷ ds) bodies names rs a = absurd a
  functions_more (h ∷ fs) [] bodies names rs a = absurd a
  functions_more (h ∷ fs) (false ∷ ds) bodies names [] a = absurd a
  functions_more (h ∷ fs) (true ∷ ds) [] names [] a = absurd a
  functions_more (h ∷ fs) (true ∷ ds) (b ∷ bodies) names [] a = absurd a
  functions_more (h ∷ fs) (false ∷ ds) bodies names (s ∷ rs) a = (a.0, functions_more fs ds bodies names rs a.1)
  functions_more (h ∷ fs) (true ∷ ds) (b ∷ bodies) names (s ∷ rs) a = (a.0, functions_more fs ds bodies names rs a.1)
  functions_more (h ∷ fs) (true ∷ ds) [] names (s ∷ rs) a = (a.0, functions_more fs ds [] (names_behind true names) rs a.1)

pub counts_more : (rs : List (Bool × m.Function)) (r : Bool × m.Function) (due : List ℕ) → counts_due (r ∷ []) ≡ due → counts_due (rs ++ r ∷ []) ≡ counts_due rs ++ due
counts_more [] r due is = is
counts_more ((true, f) ∷ rs) r due is = ap (λ (l : List ℕ). length f.parameters ∷ l) (counts_more rs r due is)
counts_more ((false, f) ∷ rs) r due is = counts_more rs r due is

-- ---- the first whose body is due

-- the function whose body is due, from that number on
pub record IsFirst (base : Lists) (fs : List the_function.Function) (names : List (List the_local.LocalName)) (rs : List (Bool × m.Function)) (number found : ℕ) : Type 0 where
  pub f : the_function.Function
  pub h : m.Function
  pub place : ℕ
  pub there : slice_get fs place ≡ Some f
  pub at : found ≡ number + place
  pub first : first_due rs ≡ Some h
  pub due : IsDue base (names_for true names) f (true, h)

module _ (base : Lists) (g : Growing) (D : Type 0) (later : List (List the_local.LocalName)) where
  on_first : (f : the_function.Function) (fs : List the_function.Function) (names : List (List the_local.LocalName)) (r : Bool × m.Function) (rs : List (Bool × m.Function)) (number found : ℕ) → r.0 ≡ false → IsFirst base fs names rs (suc number) found
      → IsFirst base (f ∷ fs) names (r ∷ rs) number found
  on_first f fs names (true, h) rs number found other i = absurd (cc)
  on_first f fs names (false, h) rs number found other i = record { f = i.f; h = i.h; place = suc i.place; there = i.there; at = let at = i.at in omega (arith, at); first = i.first; due = i.due }

  pub due_found : (fs : List the_function.Function) (ds : List Bool) (bodies : List the_body.Body) (names : List (List the_local.LocalName)) (rs : List (Bool × m.Function)) (number found : ℕ)
      → AreFunctions base g D later fs ds bodies names rs → due_at ds (length bodies) number ≡ Some found → IsFirst base fs names rs number found
  due_found [] [] [] names [] number found a e = absurd (cc)
  due_found [] [] [] names (r ∷ rs) number found a e = absurd a
  due_found [] [] (b ∷ bodies) names rs number found a e = absurd a
  due_found [] (d ∷ ds) bodies names rs number found a e = absurd a
  due_found (f ∷ fs) [] bodies names rs number found a e = absurd a
  due_found (f ∷ fs) (false ∷ ds) bodies names [] number found a e = absurd a
  due_found (f ∷ fs) (true ∷ ds) [] names [] number found a e = absurd a
  due_found (f ∷ fs) (true ∷ ds) (b ∷ bodies) names [] number found a e = absurd a
  due_found (f ∷ fs) (false ∷ ds) bodies names (r ∷ rs) number found a e = on_first f fs names r rs number found a.0.not_due (due_found fs ds bodies names rs (suc number) found a.1 e)
  due_found (f ∷ fs) (true ∷ ds) (b ∷ bodies) names (r ∷ rs) number found a e = on_first f fs names r rs number found a.0.not_due (due_found fs ds bodies names rs (suc number) found a.1 e)
  due_found (f ∷ fs) (true ∷ ds) [] names ((true, h) ∷ rs) number found a e = record { f = f; h = h; place = 0; there = refl; at = same e; first = refl; due = a.0 }
    where
      same : Some number ≡ Some found → found ≡ number + 0
      same e = let is : number ≡ found = cc in omega (arith, is)
  due_found (f ∷ fs) (true ∷ ds) [] names ((false, h) ∷ rs) number found a e = let due : false ≡ true = a.0.due in absurd (cc)

  pub due_same : (fs : List the_function.Function) (ds : List Bool) (bodies : List the_body.Body) (names : List (List the_local.LocalName)) (rs : List (Bool × m.Function)) (number : ℕ)
      → AreFunctions base g D later fs ds bodies names rs → is_some (first_due rs) ≡ is_some (due_at ds (length bodies) number)
  due_same [] [] [] names [] number a = refl
  due_same [] [] [] names (r ∷ rs) number a = absurd a
  due_same [] [] (b ∷ bodies) names rs number a = absurd a
  due_same [] (d ∷ ds) bodies names rs number a = absurd a
  due_same (f ∷ fs) [] bodies names rs number a = absurd a
  due_same (f ∷ fs) (false ∷ ds) bodies names [] number a = absurd a
  due_same (f ∷ fs) (true ∷ ds) [] names [] number a = absurd a
  due_same (f ∷ fs) (true ∷ ds) (b ∷ bodies) names [] number a = absurd a
  due_same (f ∷ fs) (false ∷ ds) bodies names ((false, h) ∷ rs) number a = due_same fs ds bodies names rs (suc number) a.1
  due_same (f ∷ fs) (false ∷ ds) bodies names ((true, h) ∷ rs) number a = let not_due : true ≡ false = a.0.not_due in absurd (cc)
  due_same (f ∷ fs) (true ∷ ds) (b ∷ bodies) names ((false, h) ∷ rs) number a = due_same fs ds bodies names rs (suc number) a.1
  due_same (f ∷ fs) (true ∷ ds) (b ∷ bodies) names ((true, h) ∷ rs) number a = let not_due : true ≡ false = a.0.not_due in absurd (cc)
  due_same (f ∷ fs) (true ∷ ds) [] names ((true, h) ∷ rs) number a = refl
  due_same (f ∷ fs) (true ∷ ds) [] names ((false, h) ∷ rs) number a = let due : false ≡ true = a.0.due in absurd (cc)

  -- as many are defined or not as were read
  pub functions_long : (fs : List the_function.Function) (ds : List Bool) (bodies : List the_body.Body) (names : List (List the_local.LocalName)) (rs : List (Bool × m.Function)) → AreFunctions base g D later fs ds bodies names rs → length ds ≡ length rs
  functions_long [] [] [] names [] a = refl
  functions_long [] [] [] names (r ∷ rs) a = absurd a
  functions_long [] [] (b ∷ bodies) names rs a = absurd a
  functions_long [] (d ∷ ds) bodies names rs a = absurd a
  functions_long (f ∷ fs) [] bodies names rs a = absurd a
  functions_long (f ∷ fs) (false ∷ ds) bodies names [] a = absurd a
  functions_long (f ∷ fs) (true ∷ ds) [] names [] a = absurd a
  functions_long (f ∷ fs) (true ∷ ds) (b ∷ bodies) names [] a = absurd a
  functions_long (f ∷ fs) (false ∷ ds) bodies names (r ∷ rs) a = ap suc (functions_long fs ds bodies names rs a.1)
  functions_long (f ∷ fs) (true ∷ ds) (b ∷ bodies) names (r ∷ rs) a = ap suc (functions_long fs ds bodies names rs a.1)
  functions_long (f ∷ fs) (true ∷ ds) [] names (r ∷ rs) a = ap suc (functions_long fs ds [] (names_behind true names) rs a.1)

  -- it gets its body
  pub body_given : (fs : List the_function.Function) (ds : List Bool) (bodies : List the_body.Body) (names : List (List the_local.LocalName)) (rs : List (Bool × m.Function)) (number found : ℕ) (b : the_body.Body) (read : Begun)
      → AreFunctions base g D later fs ds bodies names rs → (e : due_at ds (length bodies) number ≡ Some found)
      → ((f : the_function.Function) (h : m.Function) → first_due rs ≡ Some h → IsDue base (names_for true names) f (true, h) → IsDefined base g D f b (false, with_body read h))
      → AreFunctions base g D later fs ds (bodies ++ b ∷ []) (names_behind true names) (give_body read rs)
  body_given [] [] [] names [] number found b read a e made = absurd (cc)
  body_given [] [] [] names (r ∷ rs) number found b read a e made = absurd a
  body_given [] [] (c ∷ bodies) names rs number found b read a e made = absurd a
  body_given [] (d ∷ ds) bodies names rs number found b read a e made = absurd a
  body_given (f ∷ fs) [] bodies names rs number found b read a e made = absurd a
  body_given (f ∷ fs) (false ∷ ds) bodies names [] number found b read a e made = absurd a
  body_given (f ∷ fs) (true ∷ ds) [] names [] number found b read a e made = absurd a
  body_given (f ∷ fs) (true ∷ ds) (c ∷ bodies) names [] number found b read a e made = absurd a
  body_given (f ∷ fs) (false ∷ ds) bodies names ((false, h) ∷ rs) number found b read a e made = (a.0, body_given fs ds bodies names rs (suc number) found b read a.1 e made)
  body_given (f ∷ fs) (false ∷ ds) bodies names ((true, h) ∷ rs) number found b read a e made = let not_due : true ≡ false = a.0.not_due in absurd (cc)
  body_given (f ∷ fs) (true ∷ ds) (c ∷ bodies) names ((false, h) ∷ rs) number found b read a e made = (a.0, body_given fs ds bodies names rs (suc number) found b read a.1 e made)
  body_given (f ∷ fs) (true ∷ ds) (c ∷ bodies) names ((true, h) ∷ rs) number found b read a e made = let not_due : true ≡ false = a.0.not_due in absurd (cc)
  body_given (f ∷ fs) (true ∷ ds) [] names ((true, h) ∷ rs) number found b read a e made = (made f h refl a.0, a.1)
  body_given (f ∷ fs) (true ∷ ds) [] names ((false, h) ∷ rs) number found b read a e made = let due : false ≡ true = a.0.due in absurd (cc)

  -- ---- all bodies came

  module _ (x : Lists) (all : D) (grows : (b : the_body.Body) (f : the_function.Function) (r : Bool × m.Function) → IsDefined base g D f b r
      → KnowsBody (length x.table.types) (length x.constants) (length f.parameters) b × (record (head_of base f) { body = Some (body_view (trees x.table) (constants_of x) (parameter_names f) b) } ≡ r.1))
      (types : ℕ) (agree : (id : ℕ) → id < types → type_at (trees x.table) id ≡ type_at (trees base.table) id) where
    parameters_agree : (ps : List the_parameter.Parameter) → All (λ (p : the_parameter.Parameter). p.ty < types) ps → map (parameter_view (trees x.table)) ps ≡ map (parameter_view (trees base.table)) ps
    parameters_agree [] known = refl
    parameters_agree (p ∷ ps) known =
        λ j. record (parameter_view (trees base.table) p) { ty = agree p.ty (All-head (λ (q : the_parameter.Parameter). q.ty < types) p ps known) j } ∷ parameters_agree ps (All-tail (λ (q : the_parameter.Parameter). q.ty < types) p ps known) j

    -- a function of the arena, but for its body
    head_same : (f : the_function.Function) → KnowsFunction types (length base.constants) f → function_in x (record f { body = None }) ≡ head_of base f
    head_same f known = λ j. record (head_of base f) { returns = agree f.result known.result_known j; parameters = parameters_agree f.parameters known.parameters_known j }

    declaration_same : (f : the_function.Function) → f.body ≡ None → KnowsFunction types (length base.constants) f → function_in x f ≡ head_of base f
    declaration_same f none known = ap (λ (o : Option the_body.Body). function_in x (record f { body = o })) none ∙ head_same f known

    pub functions_are : (fs : List the_function.Function) (ds : List Bool) (bodies : List the_body.Body) (names : List (List the_local.LocalName)) (rs : List (Bool × m.Function))
        → AreFunctions base g D later fs ds bodies names rs → first_due rs ≡ None → All (λ (f : the_function.Function). f.body ≡ None) fs → All (KnowsFunction types (length base.constants)) fs
        → Suits (length x.table.types) (length x.constants) fs ds bodies × (map (function_in x) (defined_by fs ds bodies) ≡ map (λ (r : Bool × m.Function). r.1) rs)
    functions_are [] [] [] names [] a none undefined known = (refl, refl)
    functions_are [] [] [] names (r ∷ rs) a none undefined known = absurd a
    functions_are [] [] (b ∷ bodies) names rs a none undefined known = absurd a
    functions_are [] (d ∷ ds) bodies names rs a none undefined known = absurd a
    functions_are (f ∷ fs) [] bodies names rs a none undefined known = absurd a
    functions_are (f ∷ fs) (false ∷ ds) bodies names [] a none undefined known = absurd a
    functions_are (f ∷ fs) (true ∷ ds) [] names [] a none undefined known = absurd a
    functions_are (f ∷ fs) (true ∷ ds) (b ∷ bodies) names [] a none undefined known = absurd a
    functions_are (f ∷ fs) (false ∷ ds) bodies names ((true, h) ∷ rs) a none undefined known = let not_due : true ≡ false = a.0.not_due in absurd (cc)
    functions_are (f ∷ fs) (true ∷ ds) (b ∷ bodies) names ((true, h) ∷ rs) a none undefined known = let not_due : true ≡ false = a.0.not_due in absurd (cc)
    functions_are (f ∷ fs) (true ∷ ds) [] names ((true, h) ∷ rs) a none undefined known = absurd (cc)
    functions_are (f ∷ fs) (true ∷ ds) [] names ((false, h) ∷ rs) a none undefined known = let due : false ≡ true = a.0.due in absurd (cc)
    functions_are (f ∷ fs) (false ∷ ds) bodies names ((false, h) ∷ rs) a none undefined known =
        let U = λ (u : the_function.Function). u.body ≡ None in
        let K = KnowsFunction types (length base.constants) in
        let on = functions_are fs ds bodies names rs a.1 none (All-tail U f fs undefined) (All-tail K f fs known) in
        let same = declaration_same f (All-head U f fs undefined) (All-head K f fs known) ∙ a.0.is in
        (on.0, λ j. same j ∷ on.1 j)
    functions_are (f ∷ fs) (true ∷ ds) (b ∷ bodies) names ((false, h) ∷ rs) a none undefined known =
        let U = λ (u : the_function.Function). u.body ≡ None in
        let K = KnowsFunction types (length base.constants) in
        let on = functions_are fs ds bodies names rs a.1 none (All-tail U f fs undefined) (All-tail K f fs known) in
        let d = grows b f (false, h) a.0 in
        let heads = head_same f (All-head K f fs known) in
        let same : function_in x (record f { body = Some b }) ≡ h =
        ap (λ (u : m.Function). record u { body = Some (body_view (trees x.table) (constants_of x) (parameter_names f) b) }) heads ∙ d.1 in
        ((d.0, on.0), λ j. same j ∷ on.1 j)
