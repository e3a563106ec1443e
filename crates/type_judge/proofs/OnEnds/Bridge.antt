-- Numbers that lead to one another, and structs that hold one another.
use Rattle.std.specs.Prelude.{◌≡◌, refl, ◌⊎◌, ℕ, zero, suc, Bool, true, false, ◌||◌, List, length, bytes_eq, Option, Some, None}
use Rattle.std.proofs.Common.{ap, sym, subst, ◌∙◌, get_or, inl, inr}
use Rattle.std.proofs.lemmas.Slice.Eq.{bytes_eq-Decides}
use Rattle.type_table.specs.Tree.{TreeBody, opaque_body, Structs, body_of}
use Rattle.module_arena.specs.Module.{Bytes}
use Rattle.type_table.specs.Names.Entries.{value_of}
use Rattle.name_rules.specs.Measured.{names_of, body_names, hold_within, contains_itself}
use Rattle.type_judge.specs.Order.Dependency.{HasName}
use Rattle.type_judge.specs.Order.Mentions.{AreNumbers, numbers_of, lists_from}
use Rattle.type_judge.specs.Order.Order.{mentioned, HasNumber}
use Rattle.type_judge.proofs.OnOrder.Named.{nothing, written, is_mentioned, none_found, name_there, found_number, own_body, own_mentions}
use Rattle.type_judge.specs.Ends.Reach.{LeadsBy, LeadsTo, AreReached}
use Rattle.type_judge.proofs.OnEnds.Holding.{any_there, any_none, holds, finds, hold_next, hold_zero, hold_none, enough, named_or_opaque}

module _ (structs : Structs) (table : List (Bytes × ℕ)) (are : AreNumbers table structs) where
  -- what the struct of that name mentions
  of_name : (name : Bytes) (number : ℕ) → value_of table name ≡ Some number → mentioned (lists_from table 0 structs) number ≡ numbers_of table (body_names (body_of structs name))
  of_name name number e =
      let at = found_number structs table are name number e in
      let first : value_of table (get_or structs number nothing).0 ≡ Some number = ap (value_of table) (sym (name_there structs table are number) ∙ at.2) ∙ e in
      own_mentions structs table are number at.0 first
      ∙ ap (λ (b : TreeBody). numbers_of table (body_names b)) (sym (own_body structs table are number first) ∙ ap (body_of structs) at.2)

  -- the struct of a number that is mentioned by that of a name
  named : (name : Bytes) (number other : ℕ) → value_of table name ≡ Some number → HasNumber other (mentioned (lists_from table 0 structs) number) → (z : Bytes) × HasName z (body_names (body_of structs name)) × (value_of table z ≡ Some other)
  named name number other e h = written table (body_names (body_of structs name)) other (subst (λ ns. HasNumber other ns) (of_name name number e) h)

  mentions_it : (name z : Bytes) (number other : ℕ) → value_of table name ≡ Some number → HasName z (body_names (body_of structs name)) → value_of table z ≡ Some other → HasNumber other (mentioned (lists_from table 0 structs) number)
  mentions_it name z number other e h q = subst (λ ns. HasNumber other ns) (sym (of_name name number e)) (is_mentioned table (body_names (body_of structs name)) z other h q)

  none_named : (z : Bytes) → value_of table z ≡ None → HasName z (names_of structs) → ⊥
  none_named z e h = none_found 0 structs z (sym (are.each z) ∙ e) h

  or_of : {a b : Bool} → a ≡ false → b ≡ false → (a || b) ≡ false
  or_of p q = λ j. p j || q j

  module _ (x : Bytes) where
    one_step : (room : ℕ) (y z : Bytes) → HasName z (body_names (body_of structs y)) → finds structs x room z ≡ true → holds structs x (suc room) y ≡ true
    one_step room y z h e = hold_next structs x room (body_names (body_of structs y)) ∙ any_there (finds structs x room) (body_names (body_of structs y)) z h e

    -- the name of a number that is led to
    abbrev HoldsBy : ℕ → Bytes → Type 0
    HoldsBy number z = (value_of table z ≡ Some number) × ((room : ℕ) → finds structs x room z ≡ true → (k : ℕ) × (holds structs x k x ≡ true))

    found_back : (b : Bool) {c : Bool} → c ≡ true → (b || c) ≡ true
    found_back true e = refl
    found_back false e = e

    led : (start : ℕ) → value_of table x ≡ Some start → (others number : ℕ) → LeadsBy (lists_from table 0 structs) start others number → (z : Bytes) × HoldsBy number z
    led start e zero number h =
        let r = named x start number e h in
        (r.0, (r.2, λ room f. (suc room, one_step room x r.0 r.1 f)))
    led start e (suc others) number h =
        let before = led start e others h.0 h.1 in
        let r = named before.0 h.0 number before.1.0 h.2 in
        (r.0, (r.2, λ room f. before.1.1 (suc room) (found_back (bytes_eq before.0 x) (one_step room before.0 r.0 r.1 f))))

    -- a number that leads to itself is that of a struct that contains itself
    pub leads_back : (start : ℕ) → value_of table x ≡ Some start → LeadsTo (lists_from table 0 structs) start start → contains_itself structs x ≡ true
    leads_back start e r =
        let z = led start e r.0 start r.1 in
        let same : z.0 ≡ x = sym (found_number structs table are z.0 start z.1.0).2 ∙ (found_number structs table are x start e).2 in
        let here = (bytes_eq-Decides z.0 x).1 same in
        let back = z.1.1 0 (ap (λ b. b || holds structs x 0 z.0) here) in
        enough structs x back.0 x back.1

    module _ (start : ℕ) (IsIn : ℕ → Type 0) (e : value_of table x ≡ Some start) (first : (number : ℕ) → HasNumber number (mentioned (lists_from table 0 structs) start) → IsIn number) (closed : (last number : ℕ) → IsIn last → HasNumber number (mentioned (lists_from table 0 structs) last) → IsIn number) (out : IsIn start → ⊥) where
      -- these names are of structs among those numbers, or of none
      abbrev AreFound : List Bytes → Type 0
      AreFound names = (z : Bytes) → HasName z names → (number : ℕ) → value_of table z ≡ Some number → IsIn number

      nothing_holds : (room : ℕ) (names : List Bytes) → AreFound names → hold_within structs x room names ≡ false
      nothing_holds zero names are_found = hold_zero structs x names
      nothing_holds (suc room) names are_found = hold_next structs x room names ∙ any_none (finds structs x room) names (none (λ ns f. nothing_holds room ns f))
        where
          inside : ((ns : List Bytes) → AreFound ns → hold_within structs x room ns ≡ false) → (z : Bytes) → HasName z names → (o : Option ℕ) → value_of table z ≡ o → holds structs x room z ≡ false
          inside again z h (Some number) q =
              again (body_names (body_of structs z))
              (λ w k other p. closed number other (are_found z h number q) (mentions_it z w number other q k p))
          inside again z h None q = ap (λ (b : TreeBody). hold_within structs x room (body_names b)) (opaque (named_or_opaque structs z)) ∙ hold_none structs x room
            where
              opaque : HasName z (names_of structs) ⊎ (body_of structs z ≡ opaque_body) → body_of structs z ≡ opaque_body
              opaque (inl k) = absurd (none_named z q k)
              opaque (inr k) = k

          other : (z : Bytes) → HasName z names → bytes_eq z x ≡ false
          other z h = by (bytes_eq z x) refl
            where
              by : (b : Bool) → bytes_eq z x ≡ b → b ≡ false
              by false q = refl
              by true q =
                  let same = (bytes_eq-Decides z x).0 q in
                  absurd (out (are_found z h start (ap (value_of table) same ∙ e)))

          none : ((ns : List Bytes) → AreFound ns → hold_within structs x room ns ≡ false) → (z : Bytes) → HasName z names → finds structs x room z ≡ false
          none again z h = or_of (other z h) (inside again z h (value_of table z) refl)

      -- where what a struct mentions, and all that this mentions, has numbers among which its own is not, it does not contain itself
      pub leads_not : contains_itself structs x ≡ false
      leads_not = nothing_holds (length structs) (body_names (body_of structs x)) (λ z h number q. first number (mentions_it x z start number e h q))

  -- a name without a number is that of no struct
  pub not_there : (x : Bytes) → value_of table x ≡ None → contains_itself structs x ≡ false
  not_there x e = ap (λ (b : TreeBody). hold_within structs x (length structs) (body_names b)) (opaque (named_or_opaque structs x)) ∙ hold_none structs x (length structs)
    where
      opaque : HasName x (names_of structs) ⊎ (body_of structs x ≡ opaque_body) → body_of structs x ≡ opaque_body
      opaque (inl k) = absurd (none_named x e k)
      opaque (inr k) = k

  -- what was found is the answer
  pub answered : (x : Bytes) (start : ℕ) (marks : List Bool) → value_of table x ≡ Some start → AreReached (lists_from table 0 structs) start marks → get_or marks start false ≡ contains_itself structs x
  answered x start marks e reached = by (get_or marks start false) refl
    where
      by : (b : Bool) → get_or marks start false ≡ b → b ≡ contains_itself structs x
      by true q = sym (leads_back x start e (reached.sound start q))
      by false q = sym (leads_not x start (λ k. get_or marks k false ≡ true) e reached.first reached.closed (out q))
        where
          out : get_or marks start false ≡ false → get_or marks start false ≡ true → ⊥
          out off on = absurd cc
