-- Function types keep what they are when their pools grow, and one more is there once.
use Rattle.std.proofs.Common.{◌≡◌, ℕ, ◌<◌, ◌≤◌, All, Bool, List, [], ◌∷◌, ◌++◌, append-nil, length, get_or, map, Some, refl, sym, ap, ◌∙◌, subst, arith}
use Rattle.std.specs.Prelude.{slice_get}
use Rattle.std.specs.Option.{option_map}
use Rattle.std.proofs.lemmas.List.{length-map, map-append}
use Rattle.std.proofs.lemmas.List.Elements.{All-head, All-push, All-tail}
use Rattle.std.proofs.lemmas.List.Quantifiers.{all_pairs_push}
use Rattle.std.proofs.lemmas.Option.{slice_get-get_or, slice_get-map, slice_get_within}
use Rattle.module_arena.specs.Lists.{Lists}
use Rattle.module_arena.proofs.Found.{slice_get-here}
use Rattle.run_rules.specs.Action.{Signature}
use Rattle.run_decode.specs.declared.flat.leaf.Span.{Span}
use Rattle.run_decode.specs.Flat.Spans.{IsBetween, IsLonger}
use Rattle.run_decode.proofs.OnFlat.Growth.{span_stays, spanned_same}
use Rattle.run_decode.proofs.OnFlat.Spanned.{between_in, spanned_more}
use Rattle.run_decode.specs.declared.signatures.written.WrittenSignature.{WrittenSignature}
use Rattle.run_decode.specs.Signatures.Met.{AreMet, FunctionType, IsWritten, Met, known, shaped, type_in, written_as}
use Rattle.run_decode.specs.Signatures.Numbers.{Numbers}

module _ (a : Lists) (ps qs : List ℕ) (longer : IsLonger ps qs) where
  type_kept : (w : WrittenSignature) → IsWritten a ps w → type_in qs w ≡ type_in ps w
  type_kept w h = ap (λ (ids : List ℕ). record { returns = w.returns; parameters = ids; variadic = w.variadic }) (spanned_same ps qs w.parameters longer h.there)

  written_kept : (w : WrittenSignature) → IsWritten a ps w → IsWritten a qs w
  written_kept w h = record {
    returns = h.returns;
    there = span_stays ps qs w.parameters longer h.there;
    known_types = subst (All (λ (ty : ℕ). ty < length a.table.types)) (sym (spanned_same ps qs w.parameters longer h.there)) h.known_types;
  }

  -- all stay what they are
  pub types_kept : (ws : List WrittenSignature) → All (IsWritten a ps) ws → map (type_in qs) ws ≡ map (type_in ps) ws
  types_kept [] h = refl
  types_kept (w ∷ ws) h = λ i. type_kept w (All-head (IsWritten a ps) w ws h) i ∷ types_kept ws (All-tail (IsWritten a ps) w ws h) i

  pub met_kept : (ws : List WrittenSignature) → AreMet a ps ws → AreMet a qs ws
  met_kept ws h = record {
    written = λ k d lt. written_kept (get_or ws k d) (h.written k d lt);
    distinct = λ i j d lt lt' e. h.distinct i j d lt lt'
        (sym (ap (shaped a) (type_kept (get_or ws i d) (h.written i d (omega (arith, lt, lt'))))) ∙ e ∙ ap (shaped a) (type_kept (get_or ws j d) (h.written j d lt')));
  }

-- the function type with a number
pub typed_as : (ps : List ℕ) (ws : List WrittenSignature) (k : ℕ) (w : WrittenSignature) → slice_get ws k ≡ Some w → slice_get (map (type_in ps) ws) k ≡ Some (type_in ps w)
typed_as ps ws k w e = slice_get-map (type_in ps) ws k ∙ ap (option_map (type_in ps)) e

pub shaped_as : (a : Lists) (ts : List FunctionType) (k : ℕ) (t : FunctionType) → slice_get ts k ≡ Some t → slice_get (map (shaped a) ts) k ≡ Some (shaped a t)
shaped_as a ts k t e = slice_get-map (shaped a) ts k ∙ ap (option_map (shaped a)) e

-- one function type more, which none is yet
met_more : (a : Lists) (qs : List ℕ) (ws : List WrittenSignature) (w : WrittenSignature) → AreMet a qs ws → IsWritten a qs w
    → ((k : ℕ) → slice_get (map (shaped a) (map (type_in qs) ws)) k ≡ Some (shaped a (type_in qs w)) → ⊥) → AreMet a qs (ws ++ w ∷ [])
met_more a qs ws w h here none = record {
  written = All-push (IsWritten a qs) ws w h.written here;
  distinct = all_pairs_push (λ (v u : WrittenSignature). shaped a (type_in qs v) ≡ shaped a (type_in qs u) → ⊥) ws w h.distinct
      (λ k d lt e. none k (shaped_as a (map (type_in qs) ws) k (type_in qs (get_or ws k d)) (typed_as qs ws k (get_or ws k d) (slice_get-get_or ws k d lt)) ∙ ap Some e));
}

-- ---- what a clause sees

module _ (m : Met) (a : Lists) (ps : List ℕ) (ws : List WrittenSignature) (is : record { lists = a; types = map (type_in ps) ws } ≡ m) (met : AreMet a ps ws) where
  pub lists_are : a ≡ m.lists
  lists_are = ap (λ (x : Met). x.lists) is

  -- the function type with a number
  pub seen_as : (k : ℕ) (w : WrittenSignature) → slice_get ws k ≡ Some w → slice_get (known m) k ≡ Some (shaped a (type_in ps w))
  seen_as k w e = sym (ap (λ (x : Met). slice_get (known x) k) is) ∙ shaped_as a (map (type_in ps) ws) k (type_in ps w) (typed_as ps ws k w e)

  -- no number is that of a function type which those so far have not, where these are all
  pub none_at_all : (s : Signature) (n : ℕ) → length ws ≤ n → ((k : ℕ) → k < n → slice_get (known m) k ≡ Some s → ⊥) → (k : ℕ) → slice_get (known m) k ≡ Some s → ⊥
  none_at_all s n all none k e =
      let here = slice_get_within (map (shaped a) (map (type_in ps) ws)) k s (ap (λ (x : Met). slice_get (known x) k) is ∙ e) in
      let long = length-map (map (type_in ps) ws) (shaped a) in
      let long' = length-map ws (type_in ps) in
      none k (omega (arith, here, long, long', all)) e

  -- parameters alone are gained
  pub numbers_same : (qs : List ℕ) → IsLonger ps qs → Numbers m (record { lists = a; types = map (type_in qs) ws })
  numbers_same qs longer =
      subst (λ (x : Met). Numbers x (record { lists = a; types = map (type_in qs) ws })) is
      (record { lists = refl; kept = ([], types_kept a ps qs longer ws met.written ∙ sym (append-nil (map (type_in ps) ws))) })

  module _ (qs : List ℕ) (returns : ℕ) (parameters : List ℕ) (variadic : Bool) (span : Span) (more : qs ≡ ps ++ parameters) (between : IsBetween (length ps) (length qs) span) where
    -- what is written
    abbrev one : WrittenSignature
    one = record { returns = returns; parameters = span; variadic = variadic }

    one_seen : shaped a (type_in qs one) ≡ written_as m.lists returns parameters variadic
    one_seen =
        ap (λ (ids : List ℕ). written_as a returns ids variadic) (spanned_more ps parameters qs span more between)
        ∙ ap (λ (x : Lists). written_as x returns parameters variadic) lists_are

    -- one function type is gained
    pub numbers_more : (us : List WrittenSignature) → us ≡ ws ++ one ∷ [] → Numbers m (record { lists = a; types = map (type_in qs) us })
    numbers_more us e =
        subst (λ (x : Met). Numbers x (record { lists = a; types = map (type_in qs) us })) is
        (record {
          lists = refl;
          kept = (
            type_in qs one ∷ [],
            ap (map (type_in qs)) e ∙ map-append (type_in qs) ws (one ∷ [])
                ∙ ap (λ (l : List FunctionType). l ++ type_in qs one ∷ []) (types_kept a ps qs (parameters, more) ws met.written),
          );
        })

    -- it has the next number
    pub number_more : (us : List WrittenSignature) (n : ℕ) → us ≡ ws ++ one ∷ [] → n ≡ length ws → slice_get (map (shaped a) (map (type_in qs) us)) n ≡ Some (written_as m.lists returns parameters variadic)
    number_more us n e here =
        shaped_as a (map (type_in qs) us) n (type_in qs one) (typed_as qs us n one ((λ i. slice_get (e i) (here i)) ∙ slice_get-here ws one)) ∙ ap Some one_seen

    -- and it was not met before
    pub met_with : (us : List WrittenSignature) → us ≡ ws ++ one ∷ [] → returns < length m.lists.table.types → All (λ (ty : ℕ). ty < length m.lists.table.types) parameters
        → ((k : ℕ) → slice_get (known m) k ≡ Some (written_as m.lists returns parameters variadic) → ⊥) → AreMet a qs us
    met_with us e known_returns known_parameters none =
        let longer : IsLonger ps qs = (parameters, more) in
        let here : IsWritten a qs one = record {
          returns = subst (λ (x : Lists). returns < length x.table.types) (sym lists_are) known_returns;
          there = between_in qs (length ps) span between;
          known_types = subst (All (λ (ty : ℕ). ty < length a.table.types)) (sym (spanned_more ps parameters qs span more between)) (subst (λ (x : Lists). All (λ (ty : ℕ). ty < length x.table.types) parameters) (sym lists_are) known_parameters);
        } in
        subst (AreMet a qs) (sym e)
        (met_more a qs ws one (met_kept a ps qs longer ws met) here
        (λ k at. none k
        (sym (ap (λ (x : Met). slice_get (known x) k) is) ∙ sym (ap (λ (l : List FunctionType). slice_get (map (shaped a) l) k) (types_kept a ps qs longer ws met.written)) ∙ at ∙ ap Some one_seen)))
