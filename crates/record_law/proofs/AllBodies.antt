-- The bodies that are put are read back, each for its function.
use Rattle.std.proofs.Common.{◌≡◌, ℕ, Bool, true, false, List, [], ◌∷◌, ◌++◌, length, Option, Some, None, Ok, refl, sym, ap, ◌∙◌, append-nil, append_assoc}
use Rattle.std.specs.Prelude.{map, filter_map, is_some, nat_eq, nat_lt, if◌then◌else◌}
use Rattle.std.specs.List.{AllByRecursion}
use Rattle.module_arena.specs.Module.{Block, Function}
use Rattle.bit_tree.specs.Written.{no_more}
use Rattle.record_table.specs.Fields.{label}
use Rattle.record_table.specs.Faults.{Answer, ◌>>=◌, Records, a_block, misplaced}
use Rattle.record_table.specs.Bodies.{Begun, body}
use Rattle.record_table.specs.Records.{Sofar, may_follow, first_due, give_body, body_block, block_in, ended, module_from}
use Rattle.record_table.specs.Spelling.{put, put_bodies, records_put, body_lines, body_of}
use Rattle.module_arena.specs.Names.{parameter_names}
use Rattle.record_table.specs.Listed.{IsLabel}
use Rattle.record_table.specs.Lays.{Lays}
use Rattle.record_law.specs.Bodies.Laws.{HasRead}
use Rattle.record_law.proofs.OnBodies.WholeBody.{body_back}
use Rattle.record_law.specs.FittingModules.{declared, settled, due, PartsFit, FunctionFits}
use Rattle.record_law.proofs.FunctionsBack.{declared_count, with_body_back, first_past, give_past, settle}

-- the types are behind, and a body may follow
pub record IsPast (last : ℕ) : Type 0 where
  pub may : may_follow last 9 ≡ true
  pub not_first : nat_eq last 0 ≡ false
  pub not_before : nat_lt last 5 ≡ false

-- all is read, and these are the functions
pub record AllRead (s : Sofar) (functions : List Function) (answer : Answer Sofar) : Type 0 where
  pub at : ℕ
  pub last : ℕ
  pub is : answer ≡ Ok (record s { at = at; last = last; functions = map settled functions })

none_due : (functions : List Function) → first_due (map settled functions) ≡ None
none_due [] = refl
none_due (f ∷ functions) = none_due functions

at_nine : IsPast 9
at_nine = record { may = refl; not_first = refl; not_before = refl }

read_as : (s : Sofar) (fs gs : List Function) (a b : Answer Sofar) → fs ≡ gs → b ≡ a → AllRead s fs a → AllRead s gs b
read_as s fs gs a b same is read =
    record { at = read.at; last = read.last; is = is ∙ read.is ∙ ap (λ all. Ok (record s { at = read.at; last = read.last; functions = map settled all })) same }

module _ (s : Sofar) (lays_label : (own : ℕ) → Lays (IsLabel s.texts own) (label s.texts own)) where
  abbrev pub state : ℕ → ℕ → List (Bool × Function) → Sofar
  state at last functions = record s { at = at; last = last; functions = functions }

  all_ended : (at last : ℕ) (done : List Function) → IsPast last → ended (state at last (map settled done)) ≡ Ok (state at last (map settled done))
  all_ended at last done past = rw (past.not_first, past.not_before, none_due done) refl

  first_of : (f : Function) (blocks : List Block) (rest : List (Bool × Function)) → f.body ≡ Some blocks → first_due (due f ∷ rest) ≡ Some (declared f)
  first_of f blocks rest is = ap (λ (body : Option (List Block)). first_due ((is_some body, declared f) ∷ rest)) is

  give_of : (f : Function) (blocks : List Block) (rest : List (Bool × Function)) (b : Begun) → f.body ≡ Some blocks → b.parameters ≡ parameter_names f → b.blocks ≡ blocks → give_body b (due f ∷ rest) ≡ settled f ∷ rest
  give_of f blocks rest b is names same =
      ap (λ (body : Option (List Block)). give_body b ((is_some body, declared f) ∷ rest)) is ∙ ap (λ g. settled g ∷ rest) (with_body_back f blocks b is names same)

  body_step : (f : Function) (blocks : List Block) (done : List Function) (rest : List (Bool × Function)) (at last : ℕ) (inside : Records) → f.body ≡ Some blocks → IsPast last
      → (read : HasRead (parameter_names f) blocks (body s.texts s.k (length f.parameters) at inside))
      → block_in (state at last (map settled done ++ due f ∷ rest)) 12 inside ≡ Ok (state read.begun.at 9 (map settled (done ++ f ∷ []) ++ rest))
  body_step f blocks done rest at last inside is past read =
      let fs = map settled done ++ due f ∷ rest in
      let given = λ (b : Begun). Ok (state b.at 9 (give_body b fs)) in
      ap (λ ok. if ok then body_block (state at last fs) inside (first_due fs) else misplaced 12 at) past.may
      ∙ ap (body_block (state at last fs) inside) (first_past done (due f ∷ rest) ∙ first_of f blocks rest is)
      ∙ ap (λ count. body s.texts s.k count at inside >>= given) (declared_count f)
      ∙ ap (λ (answer : Answer Begun). answer >>= given) read.is
      ∙ ap (λ all. Ok (state read.begun.at 9 all))
      (give_past read.begun done (due f ∷ rest) ∙ ap (λ all. map settled done ++ all) (give_of f blocks rest read.begun is read.parameters_are read.blocks_are) ∙ settle done f rest)

  undue : (f : Function) → f.body ≡ None → declared f ≡ f → due f ≡ settled f
  undue f is same = ap (λ (body : Option (List Block)). (is_some body, declared f)) is ∙ ap settled same

  unfoldable pub bodies_of : List Function → Records
  bodies_of fs = records_put (put_bodies (filter_map (body_of s.texts s.k) fs) no_more)

  passed : (f : Function) (rest : List Function) → f.body ≡ None → bodies_of (f ∷ rest) ≡ bodies_of rest
  unfolding bodies_of
  passed f rest is = rw is refl

  begins : (f : Function) (blocks : List Block) (rest : List Function) → f.body ≡ Some blocks
      → bodies_of (f ∷ rest) ≡ a_block 12 (records_put (put (body_lines s.texts s.k f blocks) no_more)) (bodies_of rest)
  unfolding bodies_of
  begins f blocks rest is = rw is refl

  from_none : (at last : ℕ) (done : List Function) → IsPast last → AllRead s (done ++ []) (module_from (state at last (map settled done ++ [])) (bodies_of []))
  unfolding bodies_of
  from_none at last done past = record {
    at = at;
    last = last;
    is = ap (λ fs. ended (state at last fs)) (append-nil (map settled done)) ∙ all_ended at last done past ∙ ap (λ all. Ok (state at last (map settled all))) (sym (append-nil done));
  }

  -- a function, and those behind it
  by_body : (body : Option (List Block)) (f : Function) (rest done : List Function) (at last : ℕ) → IsPast last → f.body ≡ body → PartsFit s.texts s.k f body
      → ((more : List Function) (at last : ℕ) → IsPast last → AllRead s (more ++ rest) (module_from (state at last (map settled more ++ map due rest)) (bodies_of rest)))
      → AllRead s (done ++ f ∷ rest) (module_from (state at last (map settled done ++ due f ∷ map due rest)) (bodies_of (f ∷ rest)))
  by_body None f rest done at last past is fit later =
      read_as s ((done ++ f ∷ []) ++ rest) (done ++ f ∷ rest) _ _ (append_assoc done (f ∷ []) rest)
      (ap (module_from (state at last (map settled done ++ due f ∷ map due rest))) (passed f rest is)
      ∙ ap (λ x. module_from (state at last (map settled done ++ x ∷ map due rest)) (bodies_of rest)) (undue f is fit)
      ∙ ap (λ fs. module_from (state at last fs) (bodies_of rest)) (settle done f (map due rest)))
      (later (done ++ f ∷ []) at last past)
  by_body (Some blocks) f rest done at last past is fit later =
      let read = body_back s.texts s.k lays_label f blocks at fit in
      read_as s ((done ++ f ∷ []) ++ rest) (done ++ f ∷ rest) _ _ (append_assoc done (f ∷ []) rest)
      (ap (module_from (state at last (map settled done ++ due f ∷ map due rest))) (begins f blocks rest is)
      ∙ ap (λ (answer : Answer Sofar). answer >>= λ t. module_from t (bodies_of rest))
      (body_step f blocks done (map due rest) at last (records_put (put (body_lines s.texts s.k f blocks) no_more)) is past read))
      (later (done ++ f ∷ []) read.begun.at 9 at_nine)

  pub bodies_back : (rest done : List Function) (at last : ℕ) → IsPast last → AllByRecursion (FunctionFits s.texts s.k) rest
      → AllRead s (done ++ rest) (module_from (state at last (map settled done ++ map due rest)) (bodies_of rest))
  bodies_back [] done at last past fit = from_none at last done past
  bodies_back (f ∷ rest) done at last past fit = by_body f.body f rest done at last past refl fit.0 (λ more at last past. bodies_back rest more at last past fit.1)
