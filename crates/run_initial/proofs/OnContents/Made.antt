-- The blocks of variables, one after another.
use Rattle.std.proofs.Common.{◌≡◌, ℕ, zero, suc, ◌+◌, ◌-◌, ◌*◌, ◌/◌, ◌%◌, ◌<◌, ◌≤◌, List, [], ◌∷◌, ◌++◌, map, length, drop, get_or, Bool, true, false, Some, Result, Ok, Err, refl, sym, ap, ◌∙◌, subst, arith}
use Rattle.std.specs.Prelude.{slice_get, if◌then◌else◌}
use Rattle.std.specs.Int.{next_multiple_of}
use Rattle.std.proofs.lemmas.Bool.{cond-true, cond-false, leb-true, leb-false}
use Rattle.std.proofs.lemmas.List.{at_drop_more, at_drop_all, length-append}
use Rattle.std.proofs.lemmas.Nat.{div-add-mod', div-mul-add, mod-mul-add, mod_below}
use Rattle.ir_memory.specs.declared.kind.BlockKind.{BlockKind}
use Rattle.ir_memory.specs.declared.kind.BlockKind.TheVariants as kind
use Rattle.ir_memory.specs.MemoryBlock.{MemoryBlock, new_block}
use Rattle.ir_memory.specs.Memory.{Blocks, added, byte_limit, live_bytes, round_up}
use Rattle.module_arena.proofs.Found.{slice_get-here}
use Rattle.run_rules.specs.declared.end.End.{End}
use Rattle.run_rules.specs.declared.end.End.TheVariants.{MemoryLimit}
use Rattle.run_rules.specs.Access.{and_then, has_room}
use Rattle.run_rules.specs.Opening.{made, with_variables}
use Rattle.run_rules.specs.Plan as plans
use Rattle.run_names.specs.declared.spot.Spot.{Spot}
use Rattle.run_names.specs.Spots.{needs}

-- ---- one block

module _ (size align : ℕ) (kind : BlockKind) (m : Blocks) where
  -- there was room
  pub made_ok : (n : Blocks) → (byte_limit < live_bytes m.list + size → ⊥) → n ≡ added size align kind m → made size align kind m ≡ Ok n
  made_ok n never e = go (has_room size m) refl
    where
      go : (b : Bool) → has_room size m ≡ b → made size align kind m ≡ Ok n
      go true h = cond-true (has_room size m) (Ok (added size align kind m)) (Err MemoryLimit) h ∙ ap (λ (x : Blocks). Ok x) (sym e)
      go false h = absurd (never (leb-false (live_bytes m.list + size) byte_limit h))

  -- there was none
  pub made_full : byte_limit < live_bytes m.list + size → made size align kind m ≡ Err MemoryLimit
  made_full full = go (has_room size m) refl
    where
      go : (b : Bool) → has_room size m ≡ b → made size align kind m ≡ Err MemoryLimit
      go true h = let fits = leb-true (live_bytes m.list + size) byte_limit h in absurd (omega (arith, fits, full))
      go false h = cond-false (has_room size m) (Ok (added size align kind m)) (Err MemoryLimit) h

  made_is : (n : Blocks) → made size align kind m ≡ Ok n → n ≡ added size align kind m
  made_is n e = go (has_room size m) e
    where
      go : (b : Bool) → (if b then Ok (added size align kind m) else Err MemoryLimit) ≡ Ok n → n ≡ added size align kind m
      go true h = let same : added size align kind m ≡ n = cc in sym same
      go false h = cc

-- ---- spot by spot

module _ (spots : List Spot) (k : ℕ) (s : Spot) (m : Blocks) (all : Result Blocks End) (lt : k < length spots) (is : s ≡ get_or spots k s) (before : with_variables (map needs (drop k spots)) m ≡ all) where
  next : map needs (drop k spots) ≡ needs s ∷ map needs (drop (k + 1) spots)
  next = at_drop_more (map needs) spots k s lt ∙ ap (λ (x : Spot). map needs (x ∷ drop (k + 1) spots)) (sym is)

  pub one_more : (n : Blocks) → made s.size s.align (kind.Variable s.constant) m ≡ Ok n → with_variables (map needs (drop (k + 1) spots)) n ≡ all
  one_more n e =
      sym (ap (λ (r : Result Blocks End). and_then r (λ o. with_variables (map needs (drop (k + 1) spots)) o)) e)
      ∙ sym (ap (λ (l : List plans.Variable). with_variables l m) next) ∙ before

  pub no_room : made s.size s.align (kind.Variable s.constant) m ≡ Err MemoryLimit → all ≡ Err MemoryLimit
  no_room e =
      sym before ∙ ap (λ (l : List plans.Variable). with_variables l m) next
      ∙ ap (λ (r : Result Blocks End). and_then r (λ o. with_variables (map needs (drop (k + 1) spots)) o)) e

pub all_made : (spots : List Spot) (k : ℕ) (m : Blocks) (all : Result Blocks End) → length spots ≤ k → with_variables (map needs (drop k spots)) m ≡ all → all ≡ Ok m
all_made spots k m all le before = sym before ∙ ap (λ (l : List plans.Variable). with_variables l m) (at_drop_all (map needs) spots k le)

-- ---- where the blocks lie

-- where blocks start of which the first can lie there
abbrev pub starts_from : ℕ → List plans.Variable → List ℕ
starts_from least [] = []
starts_from least (v ∷ vs) = round_up least v.align ∷ starts_from (round_up least v.align + v.size + 16) vs

pub record AreMade (vs : List plans.Variable) (m n : Blocks) : Type 0 where
  pub sealed : n.sealed ≡ m.sealed
  pub long : length n.list ≡ length m.list + length vs
  pub old : (j : ℕ) → j < length m.list → slice_get n.list j ≡ slice_get m.list j
  pub new : (k start : ℕ) (v : plans.Variable) → slice_get vs k ≡ Some v → slice_get (starts_from m.next vs) k ≡ Some start → slice_get n.list (length m.list + k) ≡ Some (new_block start v.size (kind.Variable v.constant))

pub front_same : {A : Type 0} (xs ys : List A) (j : ℕ) → j < length xs → slice_get (xs ++ ys) j ≡ slice_get xs j
front_same [] ys j lt = absurd (omega (arith, lt))
front_same (x ∷ xs) ys zero lt = refl
front_same (x ∷ xs) ys (suc j) lt = front_same xs ys j (omega (arith, lt))

pub variables_made : (vs : List plans.Variable) (m n : Blocks) → with_variables vs m ≡ Ok n → AreMade vs m n
variables_made [] m n e =
    let same : m ≡ n = cc in
    subst (AreMade [] m) same (record { sealed = refl; long = omega arith; old = λ j lt. refl; new = λ k start v at from. cc })
variables_made (v ∷ vs) m n e = go (made v.size v.align (kind.Variable v.constant) m) refl e (λ o h. variables_made vs o n h)
  where
    block : MemoryBlock
    block = new_block (round_up m.next v.align) v.size (kind.Variable v.constant)

    by : (o : Blocks) → o ≡ added v.size v.align (kind.Variable v.constant) m → AreMade vs o n → length o.list ≡ length m.list + 1 → o.list ≡ m.list ++ block ∷ [] → (k start : ℕ) (w : plans.Variable) → slice_get (v ∷ vs) k ≡ Some w → slice_get (starts_from m.next (v ∷ vs)) k ≡ Some start
        → slice_get n.list (length m.list + k) ≡ Some (new_block start w.size (kind.Variable w.constant))
    by o is h longer list zero start w at from =
        let here : length m.list + 0 ≡ length m.list = omega arith in
        let same : v ≡ w = cc in
        let begins : round_up m.next v.align ≡ start = cc in
        ap (slice_get n.list) here ∙ h.old (length m.list) (omega (arith, longer)) ∙ ap (λ l. slice_get l (length m.list)) list ∙ slice_get-here m.list block
        ∙ (λ j. Some (new_block (begins j) (same j).size (kind.Variable (same j).constant)))
    by o is h longer list (suc k) start w at from =
        let here : length m.list + suc k ≡ length o.list + k = omega (arith, longer) in
        ap (slice_get n.list) here ∙ h.new k start w at (ap (λ (x : Blocks). slice_get (starts_from x.next vs) k) is ∙ from)

    made_more : (o : Blocks) → o ≡ added v.size v.align (kind.Variable v.constant) m → AreMade vs o n → AreMade (v ∷ vs) m n
    made_more o is h =
        let list : o.list ≡ m.list ++ block ∷ [] = ap (λ (x : Blocks). x.list) is in
        let longer : length o.list ≡ length m.list + 1 = ap length list ∙ length-append m.list (block ∷ []) in
        let far = h.long in
        record {
          sealed = h.sealed ∙ ap (λ (x : Blocks). x.sealed) is;
          long = omega (arith, longer, far);
          old = λ j lt. h.old j (omega (arith, lt, longer)) ∙ ap (λ l. slice_get l j) list ∙ front_same m.list (block ∷ []) j lt;
          new = by o is h longer list;
        }

    go : (r : Result Blocks End) → made v.size v.align (kind.Variable v.constant) m ≡ r → and_then r (λ o. with_variables vs o) ≡ Ok n → ((o : Blocks) → with_variables vs o ≡ Ok n → AreMade vs o n) → AreMade (v ∷ vs) m n
    go (Ok o) is h more = made_more o (made_is v.size v.align (kind.Variable v.constant) m o is) (more o h)
    go (Err x) is h more = cc

-- ---- rounding up

pub rounded_same : (n a : ℕ) → 1 ≤ a → round_up n a ≡ next_multiple_of n a
rounded_same n a some = go (n % a) refl
  where
    q : ℕ
    q = n / a

    whole : q * a + n % a ≡ n
    whole = div-add-mod' n a

    less : n % a < a
    less = mod_below n a some

    go : (r : ℕ) → n % a ≡ r → round_up n a ≡ next_multiple_of n a
    go zero e =
        let up : n + (a - 1) ≡ q * a + (a - 1) = omega (arith, whole, e) in
        let times : (n + (a - 1)) / a ≡ q = ap (λ (x : ℕ). x / a) up ∙ div-mul-add q a (a - 1) (omega (arith, some)) in
        let once : a - n % a ≡ 1 * a + 0 = omega (arith, e) in
        let none : (a - n % a) % a ≡ 0 = ap (λ (x : ℕ). x % a) once ∙ mod-mul-add 1 a 0 (omega (arith, some)) in
        ap (λ (x : ℕ). x * a) times ∙ (let same : q * a ≡ n + (a - n % a) % a = omega (arith, whole, e, none) in same)
    go (suc r) e =
        let up : n + (a - 1) ≡ (q + 1) * a + r = (let more : (q + 1) * a ≡ q * a + a = omega arith in omega (arith, whole, e, more, some)) in
        let times : (n + (a - 1)) / a ≡ q + 1 = ap (λ (x : ℕ). x / a) up ∙ div-mul-add (q + 1) a r (omega (arith, less, e)) in
        let rest : a - n % a ≡ 0 * a + (a - n % a) = omega arith in
        let left : (a - n % a) % a ≡ a - n % a = ap (λ (x : ℕ). x % a) rest ∙ mod-mul-add 0 a (a - n % a) (omega (arith, e, some)) in
        ap (λ (x : ℕ). x * a) times
        ∙ (let more : (q + 1) * a ≡ q * a + a = omega arith in let same : (q + 1) * a ≡ n + (a - n % a) % a = omega (arith, whole, e, left, more, less) in same)
