-- New ids stand for entries of the old names, and go on to do so.
use Rattle.std.proofs.Common.{◌≡◌, ℕ, ◌+◌, take, subst, List, [], ◌∷◌, ◌++◌, length, slice_get, Option, Some, None, sym}
use Rattle.type_table.proofs.Steps.{take_next}
use Rattle.module_arena.specs.declared.entry.GlobalId.{GlobalId}
use Rattle.module_arena.specs.Lists.{Lists}
use Rattle.module_arena.specs.Module.{Bytes}
use Rattle.extract_rules.proofs.Adding.{take_whole}
use Rattle.extract_core.specs.declared.fates.fates.Fate.{Fate}
use Rattle.extract_core.specs.declared.fates.fates.Fate.TheVariants.{Kept, Declared, LeftOut}
use Rattle.extract_core.specs.Declaring.Declaring.{KeepsNames, HasNewId, AreNewIds}

-- ---- names that are kept

pub keeps_same : (a : Lists) → KeepsNames a a
keeps_same a g name e = e

pub keeps_on : (a b c : Lists) → KeepsNames a b → KeepsNames b c → KeepsNames a c
keeps_on a b c first then g name e = then g name (first g name e)

pub id_stays : (a b : Lists) → KeepsNames a b → (name : Bytes) (fate : Fate) (id : Option GlobalId) → HasNewId a name fate id → HasNewId b name fate id
id_stays a b keeps name LeftOut id h = h
id_stays a b keeps name Kept None h = absurd h
id_stays a b keeps name Kept (Some g) h = keeps g name h
id_stays a b keeps name Declared None h = absurd h
id_stays a b keeps name Declared (Some g) h = keeps g name h

pub ids_stay : (a b : Lists) → KeepsNames a b → (names : List Bytes) (fates : List Fate) (ids : List (Option GlobalId)) → AreNewIds a names fates ids → AreNewIds b names fates ids
ids_stay a b keeps [] [] [] h = tt
ids_stay a b keeps (name ∷ names) (fate ∷ fates) (id ∷ ids) h = (id_stays a b keeps name fate id h.0, ids_stay a b keeps names fates ids h.1)
ids_stay a b keeps [] [] (id ∷ ids) h = absurd h
ids_stay a b keeps [] (fate ∷ fates) ids h = absurd h
ids_stay a b keeps (name ∷ names) [] ids h = absurd h
ids_stay a b keeps (name ∷ names) (fate ∷ fates) [] h = absurd h

-- one id more
pub ids_more : (b : Lists) (names : List Bytes) (fates : List Fate) (ids : List (Option GlobalId)) (name : Bytes) (fate : Fate) (id : Option GlobalId)
    → AreNewIds b names fates ids → HasNewId b name fate id → AreNewIds b (names ++ name ∷ []) (fates ++ fate ∷ []) (ids ++ id ∷ [])
ids_more b [] [] [] name fate id h new = (new, tt)
ids_more b (n ∷ names) (f ∷ fates) (i ∷ ids) name fate id h new = (h.0, ids_more b names fates ids name fate id h.1 new)
ids_more b [] [] (i ∷ ids) name fate id h new = absurd h
ids_more b [] (f ∷ fates) ids name fate id h new = absurd h
ids_more b (n ∷ names) [] ids name fate id h new = absurd h
ids_more b (n ∷ names) (f ∷ fates) [] name fate id h new = absurd h

pub ids_pushed : (mid new : Lists) (names : List Bytes) (fates : List Fate) (k : ℕ) (name : Bytes) (fate : Fate) (ids more : List (Option GlobalId)) (id : Option GlobalId)
    → KeepsNames mid new → slice_get names k ≡ Some name → slice_get fates k ≡ Some fate → AreNewIds mid (take k names) (take k fates) ids → HasNewId new name fate id → more ≡ ids ++ id ∷ []
    → AreNewIds new (take (k + 1) names) (take (k + 1) fates) more
ids_pushed mid new names fates k name fate ids more id keeps called is old has pushed =
    subst (λ l. AreNewIds new (take (k + 1) names) (take (k + 1) fates) l) (sym pushed)
    (subst (λ ns. AreNewIds new ns (take (k + 1) fates) (ids ++ id ∷ [])) (sym (take_next names k name called))
    (subst (λ fs. AreNewIds new (take k names ++ name ∷ []) fs (ids ++ id ∷ [])) (sym (take_next fates k fate is))
    (ids_more new (take k names) (take k fates) ids name fate id (ids_stay mid new keeps (take k names) (take k fates) ids old) has)))

-- all of them
pub ids_whole : (b : Lists) (names : List Bytes) (fates : List Fate) (k : ℕ) (ids : List (Option GlobalId)) → k ≡ length names → k ≡ length fates → AreNewIds b (take k names) (take k fates) ids → AreNewIds b names fates ids
ids_whole b names fates k ids e f h = subst (λ ns. AreNewIds b ns fates ids) (take_whole names k e) (subst (λ fs. AreNewIds b (take k names) fs ids) (take_whole fates k f) h)
