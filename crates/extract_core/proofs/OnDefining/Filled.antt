-- Lists of declared entries that are defined one after the other.
use Rattle.std.proofs.Common.{◌≡◌, ℕ, zero, suc, ◌+◌, ◌≤◌, List, [], ◌∷◌, ◌++◌, map, length, set, slice_get, take, drop, Option, Some, None, refl, sym, ap, ◌∙◌, append_assoc, append-nil, arith}
use Rattle.std.specs.Prelude.{option_to_list}
use Rattle.std.specs.List.{cons_option}
use Rattle.std.specs.Option.{option_map_or}
use Rattle.std.proofs.lemmas.List.{length_push}
use Rattle.std.proofs.lemmas.Option.{same_Some}
use Rattle.module_arena.specs.Changes.{changed_at}
use Rattle.module_arena.specs.Module.{Constant, Block, Variable, Alias, Function, Module}
use Rattle.item_build.specs.Types.Declarations.{without_initialiser, without_target}
use Rattle.item_build.specs.Types.Parameters.{without_body}
use Rattle.extract_rules.proofs.Adding.{take_whole}
use Rattle.extract_core.specs.declared.fates.fates.Fate.{Fate}
use Rattle.extract_core.specs.Fates.Fates.{made, variable_as, function_as, alias_as}
use Rattle.extract_core.specs.Declaring.Stages.{with_variables}
use Rattle.extract_core.proofs.OnDeclaring.Filled.{made_more, one_listed}
use Rattle.extract_core.specs.Part.FunctionsThere.{with_functions}
use Rattle.extract_core.specs.Defining.Filling.{initialised_by, initialised_as, defined_by, defined_as, targeted_as, behind_made, with_aliases}

-- a change behind the first element leaves it
cons_changed : {A : Type 0} (x : A) (xs : List A) (k : ℕ) (change : A → A) → changed_at (x ∷ xs) (suc k) change ≡ x ∷ changed_at xs k change
cons_changed {A = A} x xs k change = go (slice_get xs k)
  where
    go : (o : Option A) → option_map_or (λ y. set (x ∷ xs) (suc k) (change y)) o (x ∷ xs) ≡ x ∷ option_map_or (λ y. set xs k (change y)) o xs
    go None = refl
    go (Some y) = refl

-- the first that is not done yet is done
pub done_next : {A : Type 0} (done : List A) (before : A) (change : A → A) (rest : List A) → changed_at (done ++ before ∷ rest) (length done) change ≡ done ++ change before ∷ rest
done_next [] before change rest = refl
done_next (x ∷ done) before change rest = cons_changed x (done ++ before ∷ rest) (length done) change ∙ ap (λ l. x ∷ l) (done_next done before change rest)

-- it is found there
pub found_next : {A : Type 0} (done : List A) (next : A) (rest : List A) → slice_get (done ++ next ∷ rest) (length done) ≡ Some next
found_next [] next rest = refl
found_next (x ∷ done) next rest = found_next done next rest

-- the next of the others is made first
pub made_next : {A B : Type 0} (become : Fate → A → Option B) (fates : List Fate) (xs : List A) (k : ℕ) (f : Fate) (x : A) → slice_get fates k ≡ Some f → slice_get xs k ≡ Some x
    → made become (drop k fates) (drop k xs) ≡ cons_option (become f x) (made become (drop (suc k) fates) (drop (suc k) xs))
made_next become [] xs k f x at is = cc
made_next become (g ∷ fates) [] k f x at is = cc
made_next become (g ∷ fates) (y ∷ xs) zero f x at is = λ i. cons_option (become (same_Some g f at i) (same_Some y x is i)) (made become fates xs)
made_next become (g ∷ fates) (y ∷ xs) (suc k) f x at is = made_next become fates xs k f x at is

-- a declared variable that gets its initialiser is whole, and one that has none is so already
pub initialiser_given : (v : Variable) (c : Constant) → v.initialiser ≡ Some c → record (without_initialiser v) { initialiser = Some c } ≡ v
initialiser_given v c e = λ i. record v { initialiser = sym e i }

pub no_initialiser : (v : Variable) → v.initialiser ≡ None → without_initialiser v ≡ v
no_initialiser v e = λ i. record v { initialiser = sym e i }

-- the same of a body
pub body_given : (f : Function) (blocks : List Block) → f.body ≡ Some blocks → record (without_body f) { body = Some blocks } ≡ f
body_given f blocks e = λ i. record f { body = sym e i }

pub no_body : (f : Function) → f.body ≡ None → without_body f ≡ f
no_body f e = λ i. record f { body = sym e i }

-- blocks that depend on the function are those of the function that is there
pub blocks_there : (fs : List Function) (k : ℕ) (g : Function) (blocks : Function → List Block) (found : List Block) → slice_get fs k ≡ Some g → blocks g ≡ found
    → changed_at fs k (λ f. record f { body = Some (blocks f) }) ≡ changed_at fs k (λ f. record f { body = Some found })
blocks_there fs k g blocks found at same =
    ap (λ o. option_map_or (λ (x : Function). set fs k (record x { body = Some (blocks x) })) o fs) at
    ∙ ap (λ l. set fs k (record g { body = Some l })) same
    ∙ sym (ap (λ o. option_map_or (λ (x : Function). set fs k (record x { body = Some found })) o fs) at)

-- ---- the next of what is made gets its initialiser, or its blocks

module _ (m : Module) (done rest : List Variable) where
  pub next_initialised : (o : Option Variable) (behind : List Variable)
      → initialised_as (with_variables m (done ++ (map without_initialiser (cons_option o behind) ++ rest))) (length done) o ≡ with_variables m ((done ++ option_to_list o) ++ (map without_initialiser behind ++ rest))
  next_initialised None behind = ap (λ l. with_variables m (l ++ (map without_initialiser behind ++ rest))) (sym (append-nil done))
  next_initialised (Some w) behind = by w.initialiser refl
    where
      by : (o : Option Constant) → w.initialiser ≡ o
          → initialised_by (with_variables m (done ++ (without_initialiser w ∷ (map without_initialiser behind ++ rest)))) (length done) o ≡ with_variables m ((done ++ w ∷ []) ++ (map without_initialiser behind ++ rest))
      by None e = ap (λ x. with_variables m (done ++ (x ∷ (map without_initialiser behind ++ rest)))) (no_initialiser w e) ∙ ap (with_variables m) (sym (append_assoc done (w ∷ []) (map without_initialiser behind ++ rest)))
      by (Some c) e =
          ap (with_variables m)
          (done_next done (without_initialiser w) (λ (v : Variable). record v { initialiser = Some c }) (map without_initialiser behind ++ rest)
          ∙ ap (λ x. done ++ (x ∷ (map without_initialiser behind ++ rest))) (initialiser_given w c e)
          ∙ sym (append_assoc done (w ∷ []) (map without_initialiser behind ++ rest)))

module _ (m : Module) (done rest : List Function) where
  pub next_defined : (o : Option Function) (behind : List Function)
      → defined_as (with_functions m (done ++ (map without_body (cons_option o behind) ++ rest))) (length done) o ≡ with_functions m ((done ++ option_to_list o) ++ (map without_body behind ++ rest))
  next_defined None behind = ap (λ l. with_functions m (l ++ (map without_body behind ++ rest))) (sym (append-nil done))
  next_defined (Some f) behind = by f.body refl
    where
      by : (o : Option (List Block)) → f.body ≡ o
          → defined_by (with_functions m (done ++ (without_body f ∷ (map without_body behind ++ rest)))) (length done) o ≡ with_functions m ((done ++ f ∷ []) ++ (map without_body behind ++ rest))
      by None e = ap (λ x. with_functions m (done ++ (x ∷ (map without_body behind ++ rest)))) (no_body f e) ∙ ap (with_functions m) (sym (append_assoc done (f ∷ []) (map without_body behind ++ rest)))
      by (Some blocks) e =
          ap (with_functions m)
          (done_next done (without_body f) (λ (g : Function). record g { body = Some blocks }) (map without_body behind ++ rest)
          ∙ ap (λ x. done ++ (x ∷ (map without_body behind ++ rest))) (body_given f blocks e)
          ∙ sym (append_assoc done (f ∷ []) (map without_body behind ++ rest)))

module _ (m : Module) (done : List Alias) where
  pub next_targeted : (o : Option Alias) (behind : List Alias)
      → targeted_as (with_aliases m (done ++ map without_target (cons_option o behind))) (length done) o ≡ with_aliases m ((done ++ option_to_list o) ++ map without_target behind)
  next_targeted None behind = ap (λ l. with_aliases m (l ++ map without_target behind)) (sym (append-nil done))
  next_targeted (Some x) behind =
      ap (with_aliases m)
      (done_next done (without_target x) (λ (y : Alias). record y { target = x.target }) (map without_target behind) ∙ sym (append_assoc done (x ∷ []) (map without_target behind)))

-- ---- the step of a loop

-- the first ones are one more, as a list behind them
pub made_front : {A B : Type 0} (become : Fate → A → Option B) (fates : List Fate) (xs : List A) (k : ℕ) (f : Fate) (x : A) → slice_get fates k ≡ Some f → slice_get xs k ≡ Some x
    → made become (take (k + 1) fates) (take (k + 1) xs) ≡ made become (take k fates) (take k xs) ++ option_to_list (become f x)
made_front become fates xs k f x at is =
    let next : k + 1 ≡ suc k = omega arith in
    ap (λ n. made become (take n fates) (take n xs)) next ∙ made_more become fates xs k f x at is ∙ ap (λ l. made become (take k fates) (take k xs) ++ l) (one_listed (become f x))

-- and those behind one less
pub made_behind : {A B : Type 0} (become : Fate → A → Option B) (fates : List Fate) (xs : List A) (k : ℕ) (f : Fate) (x : A) → slice_get fates k ≡ Some f → slice_get xs k ≡ Some x
    → made become (drop k fates) (drop k xs) ≡ cons_option (become f x) (made become (drop (k + 1) fates) (drop (k + 1) xs))
made_behind become fates xs k f x at is =
    let next : suc k ≡ k + 1 = omega arith in
    made_next become fates xs k f x at is ∙ ap (λ n. cons_option (become f x) (made become (drop n fates) (drop n xs))) next

module _ (m : Module) (fates : List Fate) (vs rest : List Variable) (k : ℕ) (f : Fate) (v : Variable) (at : slice_get fates k ≡ Some f) (is : slice_get vs k ≡ Some v) where
  abbrev variables_by : ℕ → Module
  variables_by n = with_variables m (made variable_as (take n fates) (take n vs) ++ (map without_initialiser (made variable_as (drop n fates) (drop n vs)) ++ rest))

  pub variables_step : (next : ℕ) → next ≡ length (made variable_as (take k fates) (take k vs)) → initialised_as (variables_by k) next (variable_as f v) ≡ variables_by (k + 1)
  variables_step next e =
      let o = variable_as f v in
      let done = made variable_as (take k fates) (take k vs) in
      let behind = made variable_as (drop (k + 1) fates) (drop (k + 1) vs) in
      (λ i. initialised_as (with_variables m (done ++ (map without_initialiser (made_behind variable_as fates vs k f v at is i) ++ rest))) (e i) o)
      ∙ next_initialised m done rest o behind
      ∙ ap (λ l. with_variables m (l ++ (map without_initialiser behind ++ rest))) (sym (made_front variable_as fates vs k f v at is))

module _ (m : Module) (fates : List Fate) (fs rest : List Function) (k : ℕ) (f : Fate) (g : Function) (at : slice_get fates k ≡ Some f) (is : slice_get fs k ≡ Some g) where
  abbrev functions_by : ℕ → Module
  functions_by n = with_functions m (made function_as (take n fates) (take n fs) ++ (map without_body (made function_as (drop n fates) (drop n fs)) ++ rest))

  pub functions_step : (next : ℕ) → next ≡ length (made function_as (take k fates) (take k fs)) → defined_as (functions_by k) next (function_as f g) ≡ functions_by (k + 1)
  functions_step next e =
      let o = function_as f g in
      let done = made function_as (take k fates) (take k fs) in
      let behind = made function_as (drop (k + 1) fates) (drop (k + 1) fs) in
      (λ i. defined_as (with_functions m (done ++ (map without_body (made_behind function_as fates fs k f g at is i) ++ rest))) (e i) o)
      ∙ next_defined m done rest o behind
      ∙ ap (λ l. with_functions m (l ++ (map without_body behind ++ rest))) (sym (made_front function_as fates fs k f g at is))

module _ (m : Module) (fates : List Fate) (xs : List Alias) (k : ℕ) (f : Fate) (x : Alias) (at : slice_get fates k ≡ Some f) (is : slice_get xs k ≡ Some x) where
  abbrev aliases_by : ℕ → Module
  aliases_by n = with_aliases m (made alias_as (take n fates) (take n xs) ++ map without_target (made alias_as (drop n fates) (drop n xs)))

  pub aliases_step : (next : ℕ) → next ≡ length (made alias_as (take k fates) (take k xs)) → targeted_as (aliases_by k) next (alias_as f x) ≡ aliases_by (k + 1)
  aliases_step next e =
      let o = alias_as f x in
      let done = made alias_as (take k fates) (take k xs) in
      let behind = made alias_as (drop (k + 1) fates) (drop (k + 1) xs) in
      (λ i. targeted_as (with_aliases m (done ++ map without_target (made_behind alias_as fates xs k f x at is i))) (e i) o)
      ∙ next_targeted m done o behind
      ∙ ap (λ l. with_aliases m (l ++ map without_target behind)) (sym (made_front alias_as fates xs k f x at is))

-- ---- what stands next, and how many stand before it

module _ {A B : Type 0} (become : Fate → A → Option B) (declare : B → B) (fates : List Fate) (xs : List A) (k : ℕ) (f : Fate) (x : A) (at : slice_get fates k ≡ Some f) (is : slice_get xs k ≡ Some x) where
  -- what is made of the next one is declared there
  pub next_found : (rest found : List B) (y : B) (next : ℕ) → become f x ≡ Some y → found ≡ made become (take k fates) (take k xs) ++ (map declare (made become (drop k fates) (drop k xs)) ++ rest)
      → next ≡ length (made become (take k fates) (take k xs)) → slice_get found next ≡ Some (declare y)
  next_found rest found y next makes joined e =
      let done = made become (take k fates) (take k xs) in
      let behind = made become (drop (k + 1) fates) (drop (k + 1) xs) in
      let one : made become (drop k fates) (drop k xs) ≡ y ∷ behind = made_behind become fates xs k f x at is ∙ ap (λ o. cons_option o behind) makes in
      ap (λ l. slice_get l next) (joined ∙ ap (λ l. done ++ (map declare l ++ rest)) one)
      ∙ ap (slice_get (done ++ (declare y ∷ (map declare behind ++ rest)))) e
      ∙ found_next done (declare y) (map declare behind ++ rest)

  -- the number behind it is how many were made with it
  pub behind_is : (next number : ℕ) → next ≡ length (made become (take k fates) (take k xs)) → number ≡ behind_made next (become f x) → number ≡ length (made become (take (k + 1) fates) (take (k + 1) xs))
  behind_is next number e place =
      place ∙ ap (λ n. behind_made n (become f x)) e ∙ count (become f x) (made become (take k fates) (take k xs)) ∙ ap length (sym (made_front become fates xs k f x at is))
    where
      count : (o : Option B) (done : List B) → behind_made (length done) o ≡ length (done ++ option_to_list o)
      count None done = ap length (sym (append-nil done))
      count (Some y) done = let long = length_push done y in omega (arith, long)

pub behind_upto : {B : Type 0} (next number : ℕ) (o : Option B) (k : ℕ) → number ≡ behind_made next o → next ≤ k → number ≤ k + 1
behind_upto next number None k e le = omega (arith, e, le)
behind_upto next number (Some y) k e le = omega (arith, e, le)

-- ---- all are done

dropped : {A : Type 0} (xs : List A) (k : ℕ) → k ≡ length xs → drop k xs ≡ []
dropped [] zero e = refl
dropped [] (suc k) e = refl
dropped (x ∷ xs) zero e = absurd (omega (arith, e))
dropped (x ∷ xs) (suc k) e = dropped xs k (omega (arith, e))

module _ {A B : Type 0} (become : Fate → A → Option B) (declare : B → B) (fates : List Fate) (xs : List A) (k : ℕ) (e : k ≡ length fates) (f : k ≡ length xs) where
  pub all_done : (rest : List B) → made become (take k fates) (take k xs) ++ (map declare (made become (drop k fates) (drop k xs)) ++ rest) ≡ made become fates xs ++ rest
  all_done rest = λ i. made become (take_whole fates k e i) (take_whole xs k f i) ++ (map declare (made become (dropped fates k e i) (dropped xs k f i)) ++ rest)

  pub all_done_alone : made become (take k fates) (take k xs) ++ map declare (made become (drop k fates) (drop k xs)) ≡ made become fates xs
  all_done_alone = (λ i. made become (take_whole fates k e i) (take_whole xs k f i) ++ map declare (made become (dropped fates k e i) (dropped xs k f i))) ∙ append-nil (made become fates xs)
