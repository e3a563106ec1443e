-- What holds of a program still holds when function types gain numbers, and when a head or a body is put in its place.
use Rattle.std.proofs.Common.{◌≡◌, ◌⊎◌, inl, inr, ℕ, zero, suc, List, [], ◌∷◌, set, Option, Some, refl, sym, ap, ◌∙◌, subst}
use Rattle.std.specs.Prelude.{slice_get}
use Rattle.std.proofs.lemmas.List.{length-set}
use Rattle.std.proofs.lemmas.Option.{same_Some}
use Rattle.module_arena.specs.Lists.{Lists}
use Rattle.run_decode.proofs.OnFlat.Growth.{adds_none}
use Rattle.run_decode.specs.Body.Bodies.{Decoded}
use Rattle.run_decode.specs.Signatures.Met.{Met}
use Rattle.run_decode.specs.Signatures.Numbers.{Numbers}
use Rattle.run_decode.proofs.OnSignatures.Numbered.{calls_numbered, numbered_still}
use Rattle.run_acts.specs.declared.program.program.FrameNeeds.{FrameNeeds}
use Rattle.run_acts.specs.Program.Loaded.{IsBodyOf, IsHead, IsLoaded}

-- ---- numbers

module _ (a : Lists) (m n : Met) (numbers : Numbers m n) where
  pub head_grown : (id : ℕ) (h : FrameNeeds) → IsHead a m id h → IsHead a n id h
  head_grown id h k = record {
    function = k.function;
    there = k.there;
    signature = k.signature;
    written = k.written;
    number = numbered_still m n numbers h.signature k.signature k.number;
    callee = k.callee;
  }

  pub body_grown : (function : ℕ) (b : Decoded) → IsBodyOf a m function b → IsBodyOf a n function b
  body_grown function b k = record {
    lists = k.lists;
    look = k.look;
    narrow = k.narrow;
    numbered = calls_numbered m n a b.pools b.pools numbers (adds_none b.pools) k.numbered;
  }

  pub loaded_grown : (told : List (Option FrameNeeds)) (decoded : List (Option Decoded)) → IsLoaded a m told decoded → IsLoaded a n told decoded
  loaded_grown told decoded k = record {
    lists = numbers.lists ∙ k.lists;
    heads_count = k.heads_count;
    bodies_count = k.bodies_count;
    heads = λ id h e. head_grown id h (k.heads id h e);
    bodies = λ function b e. body_grown function b (k.bodies function b e);
  }

-- ---- places

-- what stands in a list in which one item was put
set_got : {A : Type 0} (xs : List A) (k j : ℕ) (x y : A) → slice_get (set xs k x) j ≡ Some y → ((j ≡ k) × (x ≡ y)) ⊎ (slice_get xs j ≡ Some y)
set_got [] k j x y e = inr e
set_got (z ∷ zs) zero zero x y e = inl (refl, same_Some x y e)
set_got (z ∷ zs) zero (suc j) x y e = inr e
set_got (z ∷ zs) (suc k) zero x y e = inr e
set_got (z ∷ zs) (suc k) (suc j) x y e = elim (set_got zs k j x y e) [ inl h ↦ inl (ap suc h.0, h.1) | inr h ↦ inr h ]

module _ (a : Lists) (met : Met) (told : List (Option FrameNeeds)) (decoded : List (Option Decoded)) (loaded : IsLoaded a met told decoded) where
  pub loaded_head : (n : ℕ) (one : FrameNeeds) → IsHead a met n one → IsLoaded a met (set told n (Some one)) decoded
  loaded_head n one is = record {
    lists = loaded.lists;
    heads_count = length-set told n (Some one) ∙ loaded.heads_count;
    bodies_count = loaded.bodies_count;
    heads = λ id h e. elim (set_got told n id (Some one) (Some h) e) [
      | inl w ↦ subst (λ (x : FrameNeeds). IsHead a met id x) (same_Some one h w.1) (subst (λ (i : ℕ). IsHead a met i one) (sym w.0) is)
      | inr w ↦ loaded.heads id h w
    ];
    bodies = loaded.bodies;
  }

  pub loaded_body : (n : ℕ) (one : Decoded) → IsBodyOf a met n one → IsLoaded a met told (set decoded n (Some one))
  loaded_body n one is = record {
    lists = loaded.lists;
    heads_count = loaded.heads_count;
    bodies_count = length-set decoded n (Some one) ∙ loaded.bodies_count;
    heads = loaded.heads;
    bodies = λ function b e. elim (set_got decoded n function (Some one) (Some b) e) [
      | inl w ↦ subst (λ (x : Decoded). IsBodyOf a met function x) (same_Some one b w.1) (subst (λ (i : ℕ). IsBodyOf a met i one) (sym w.0) is)
      | inr w ↦ loaded.bodies function b w
    ];
  }
