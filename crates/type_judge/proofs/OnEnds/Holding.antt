-- A search through as many structs as there are finds what any longer one finds.
use Rattle.std.specs.Prelude.{◌≡◌, refl, ◌⊎◌, ℕ, zero, suc, ◌+◌, ◌≤◌, Bool, true, false, cond, ◌||◌, List, [], ◌∷◌, length, map, bytes_eq, nat_eq}
use Rattle.std.specs.List.{list_any}
use Rattle.std.proofs.Common.{ap, sym, subst, ◌∙◌, arith, inl, inr, get_or}
use Rattle.std.proofs.lemmas.Bool.{eqb-true, eqb-false}
use Rattle.std.proofs.lemmas.List.{length-map}
use Rattle.std.proofs.lemmas.Slice.Eq.{bytes_eq-Decides}
use Rattle.type_table.specs.Tree.{TreeBody, opaque_body, Structs, index_of, body_of}
use Rattle.module_arena.specs.Module.{Bytes}
use Rattle.name_rules.specs.Measured.{names_of, body_names, hold_within}
use Rattle.type_judge.specs.Order.Dependency.{HasName}

-- the name is that of a struct, or stands for nothing that is known
pub named_or_opaque : (structs : Structs) (name : Bytes) → HasName name (names_of structs) ⊎ (body_of structs name ≡ opaque_body)
named_or_opaque [] name = inr refl
named_or_opaque (s ∷ structs) name = by (bytes_eq s.0 name) refl (named_or_opaque structs name)
  where
    by : (b : Bool) → bytes_eq s.0 name ≡ b → HasName name (names_of structs) ⊎ (body_of structs name ≡ opaque_body)
        → HasName name (names_of (s ∷ structs)) ⊎ (get_or (map (λ (s : Bytes × TreeBody). s.1) (s ∷ structs)) (cond b 0 (suc (index_of (names_of structs) name))) opaque_body ≡ opaque_body)
    by true e rest = inl (inl (sym ((bytes_eq-Decides s.0 name).0 e)))
    by false e (inl h) = inl (inr h)
    by false e (inr q) = inr q

or_second : (b : Bool) {c : Bool} → c ≡ true → (b || c) ≡ true
or_second true e = refl
or_second false e = e

any_more : (p q : Bytes → Bool) (names : List Bytes) → ((n : Bytes) → p n ≡ true → q n ≡ true) → list_any p names ≡ true → list_any q names ≡ true
any_more p q [] more e = absurd cc
any_more p q (n ∷ names) more e = by (p n) refl e (λ k. any_more p q names more k)
  where
    by : (b : Bool) → p n ≡ b → (b || list_any p names) ≡ true → (list_any p names ≡ true → list_any q names ≡ true) → (q n || list_any q names) ≡ true
    by true h k again = ap (λ b. b || list_any q names) (more n h)
    by false h k again = or_second (q n) (again k)

pub any_there : (p : Bytes → Bool) (names : List Bytes) (n : Bytes) → HasName n names → p n ≡ true → list_any p names ≡ true
any_there p [] n h e = absurd h
any_there p (m ∷ names) n (inl q) e = ap (λ b. b || list_any p names) (ap p (sym q) ∙ e)
any_there p (m ∷ names) n (inr h) e = or_second (p m) (any_there p names n h e)

pub any_none : (p : Bytes → Bool) (names : List Bytes) → ((n : Bytes) → HasName n names → p n ≡ false) → list_any p names ≡ false
any_none p [] none = refl
any_none p (m ∷ names) none = (λ j. none m (inl refl) j || list_any p names) ∙ any_none p names (λ n h. none n (inr h))

module _ (structs : Structs) (x : Bytes) where
  -- whether a struct holds that one, through at most so many others
  abbrev pub holds : ℕ → Bytes → Bool
  holds room y = hold_within structs x room (body_names (body_of structs y))

  abbrev pub finds : ℕ → Bytes → Bool
  finds room n = bytes_eq n x || holds room n

  pub hold_next : (room : ℕ) (names : List Bytes) → hold_within structs x (suc room) names ≡ list_any (finds room) names
  unfolding hold_within
  hold_next room names = refl

  pub hold_zero : (names : List Bytes) → hold_within structs x zero names ≡ false
  unfolding hold_within
  hold_zero names = refl

  pub hold_none : (room : ℕ) → hold_within structs x room [] ≡ false
  hold_none zero = hold_zero []
  hold_none (suc room) = hold_next room []

  find_more : (room : ℕ) → ((n : Bytes) → holds room n ≡ true → holds (suc room) n ≡ true) → (n : Bytes) → finds room n ≡ true → finds (suc room) n ≡ true
  find_more room more n e = by (bytes_eq n x) e
    where
      by : (b : Bool) → (b || holds room n) ≡ true → (b || holds (suc room) n) ≡ true
      by true k = refl
      by false k = more n k

  more_room : (room : ℕ) (names : List Bytes) → hold_within structs x room names ≡ true → hold_within structs x (suc room) names ≡ true
  more_room zero names e = (let no = sym (hold_zero names) ∙ e in absurd cc)
  more_room (suc room) names e =
      hold_next (suc room) names
      ∙ any_more (finds room) (finds (suc room)) names (find_more room (λ n k. more_room room (body_names (body_of structs n)) k)) (sym (hold_next room names) ∙ e)

  holds_more : (room : ℕ) (y : Bytes) → holds room y ≡ true → holds (suc room) y ≡ true
  holds_more room y e = more_room room (body_names (body_of structs y)) e

  -- one room more changes nothing
  abbrev IsStable : ℕ → Type 0
  IsStable room = (y : Bytes) → holds (suc room) y ≡ holds room y

  stable_next : (room : ℕ) → IsStable room → IsStable (suc room)
  stable_next room stable y =
      hold_next (suc room) (body_names (body_of structs y))
      ∙ (λ j. list_any (λ n. bytes_eq n x || stable n j) (body_names (body_of structs y)))
      ∙ sym (hold_next room (body_names (body_of structs y)))

  -- how many of these hold it
  unfoldable count : ℕ → List Bytes → ℕ
  count room [] = 0
  count room (n ∷ names) = cond (holds room n) (suc (count room names)) (count room names)

  count_few : (room : ℕ) (names : List Bytes) → count room names ≤ length names
  unfolding count
  count_few room [] = omega arith
  count_few room (n ∷ names) = by (holds room n) (count_few room names)
    where
      by : (b : Bool) → count room names ≤ length names → cond b (suc (count room names)) (count room names) ≤ suc (length names)
      by true h = omega (arith, h)
      by false h = omega (arith, h)

  count_more : (room : ℕ) (names : List Bytes) → count room names ≤ count (suc room) names
  unfolding count
  count_more room [] = omega arith
  count_more room (n ∷ names) = by (holds room n) (holds (suc room) n) (holds_more room n) (count_more room names)
    where
      by : (b d : Bool) → (b ≡ true → d ≡ true) → count room names ≤ count (suc room) names → cond b (suc (count room names)) (count room names) ≤ cond d (suc (count (suc room) names)) (count (suc room) names)
      by true true more h = omega (arith, h)
      by true false more h = (let no = more refl in absurd cc)
      by false true more h = omega (arith, h)
      by false false more h = h

  count_same : (room : ℕ) (names : List Bytes) → count (suc room) names ≡ count room names → (y : Bytes) → HasName y names → holds (suc room) y ≡ holds room y
  unfolding count
  count_same room [] e y h = absurd h
  count_same room (n ∷ names) e y h = by (λ y q k. count_same room names q y k) (holds room n) refl (holds (suc room) n) refl e h
    where
      by : ((y : Bytes) → count (suc room) names ≡ count room names → HasName y names → holds (suc room) y ≡ holds room y) → (b : Bool) → holds room n ≡ b → (d : Bool) → holds (suc room) n ≡ d → cond d (suc (count (suc room) names)) (count (suc room) names) ≡ cond b (suc (count room names)) (count room names)
          → (y ≡ n) ⊎ HasName y names → holds (suc room) y ≡ holds room y
      by rest true p true q same (inl k) = ap (holds (suc room)) k ∙ q ∙ sym (ap (holds room) k ∙ p)
      by rest true p true q same (inr k) = rest y (let less = same in omega (arith, less)) k
      by rest false p false q same (inl k) = ap (holds (suc room)) k ∙ q ∙ sym (ap (holds room) k ∙ p)
      by rest false p false q same (inr k) = rest y same k
      by rest true p false q same k = (let no = holds_more room n p in absurd cc)
      by rest false p true q same k = (let less = count_more room names in let no = same in absurd (omega (arith, less, no)))

  -- where no more of the structs hold it, nothing changes any more
  from_count : (room : ℕ) → count (suc room) (names_of structs) ≡ count room (names_of structs) → IsStable room
  from_count room e y = by (named_or_opaque structs y)
    where
      by : HasName y (names_of structs) ⊎ (body_of structs y ≡ opaque_body) → holds (suc room) y ≡ holds room y
      by (inl h) = count_same room (names_of structs) e y h
      by (inr q) =
          ap (λ (b : TreeBody). hold_within structs x (suc room) (body_names b)) q ∙ hold_none (suc room)
          ∙ sym (ap (λ (b : TreeBody). hold_within structs x room (body_names b)) q ∙ hold_none room)

  grows : (room : ℕ) → IsStable room ⊎ (room ≤ count room (names_of structs))
  grows zero = inr (omega arith)
  grows (suc room) = by (grows room)
    where
      compared : room ≤ count room (names_of structs) → (b : Bool) → nat_eq (count (suc room) (names_of structs)) (count room (names_of structs)) ≡ b → IsStable (suc room) ⊎ (suc room ≤ count (suc room) (names_of structs))
      compared h true e = inl (stable_next room (from_count room (eqb-true (count (suc room) (names_of structs)) (count room (names_of structs)) e)))
      compared h false e =
          let no = eqb-false (count (suc room) (names_of structs)) (count room (names_of structs)) e in
          let more = count_more room (names_of structs) in
          inr (omega (arith, h, more, no))

      by : IsStable room ⊎ (room ≤ count room (names_of structs)) → IsStable (suc room) ⊎ (suc room ≤ count (suc room) (names_of structs))
      by (inl s) = inl (stable_next room s)
      by (inr h) = compared h (nat_eq (count (suc room) (names_of structs)) (count room (names_of structs))) refl

  stable_at : IsStable (length structs)
  stable_at = by (grows (length structs))
    where
      by : IsStable (length structs) ⊎ (length structs ≤ count (length structs) (names_of structs)) → IsStable (length structs)
      by (inl s) = s
      by (inr h) =
          let few = count_few (suc (length structs)) (names_of structs) in
          let more = count_more (length structs) (names_of structs) in
          let same = length-map structs (λ (s : Bytes × TreeBody). s.0) in
          from_count (length structs) (omega (arith, h, few, more, same))

  stable_later : (more : ℕ) → IsStable (more + length structs)
  stable_later zero = subst IsStable (zero_more (length structs)) stable_at
    where
      zero_more : (k : ℕ) → k ≡ 0 + k
      zero_more k = omega arith
  stable_later (suc more) = subst IsStable (one_more more (length structs)) (stable_next (more + length structs) (stable_later more))
    where
      one_more : (a k : ℕ) → suc (a + k) ≡ suc a + k
      one_more a k = omega arith

  settled : (more : ℕ) (y : Bytes) → holds (more + length structs) y ≡ holds (length structs) y
  settled zero y = ap (λ k. holds k y) (zero_more (length structs))
    where
      zero_more : (k : ℕ) → 0 + k ≡ k
      zero_more k = omega arith
  settled (suc more) y = ap (λ k. holds k y) (one_more more (length structs)) ∙ stable_later more y ∙ settled more y
    where
      one_more : (a k : ℕ) → suc a + k ≡ suc (a + k)
      one_more a k = omega arith

  further : (more room : ℕ) (y : Bytes) → holds room y ≡ true → holds (more + room) y ≡ true
  further zero room y e = subst (λ k. holds k y ≡ true) (zero_more room) e
    where
      zero_more : (k : ℕ) → k ≡ 0 + k
      zero_more k = omega arith
  further (suc more) room y e = subst (λ k. holds k y ≡ true) (one_more more room) (holds_more (more + room) y (further more room y e))
    where
      one_more : (a k : ℕ) → suc (a + k) ≡ suc a + k
      one_more a k = omega arith

  -- what is found with any room is found with that of the structs
  pub enough : (room : ℕ) (y : Bytes) → holds room y ≡ true → holds (length structs) y ≡ true
  enough room y e = sym (settled room y) ∙ subst (λ k. holds k y ≡ true) (turned (length structs) room) (further (length structs) room y e)
    where
      turned : (a k : ℕ) → a + k ≡ k + a
      turned a k = omega arith
