-- Variables, functions and aliases that are put are read back, one behind the other.
use Rattle.std.proofs.Common.{◌≡◌, ℕ, List, [], ◌∷◌, length, None, Ok, refl, sym, ap, ◌∙◌}
use Rattle.std.specs.Prelude.{map, is_some, zip}
use Rattle.std.specs.List.{AllByRecursion, fold}
use Rattle.module_arena.specs.Module.{Variable, Function, Alias}
use Rattle.bit_tree.specs.Written.{Written}
use Rattle.record_table.specs.Layout.{judged, counted, ◌&◌}
use Rattle.record_table.specs.Fields.{label, name, linkage, truth, ty}
use Rattle.record_table.specs.Faults.{Answer, ◌>>=◌}
use Rattle.record_table.specs.Bodies.{numbers_from}
use Rattle.record_table.specs.Records.{Sofar, variable, function, alias, variable_record, function_record, alias_record, record_in, module_from, types_of, parameters_of}
use Rattle.record_table.specs.Spelling.{put, records_put}
use Rattle.record_table.specs.Listed.{IsName, IsLabel, IsType}
use Rattle.record_table.specs.Lays.{Lays}
use Rattle.record_law.proofs.GlobalsBack.{DeclarationFits, lays_variable, lays_function}
use Rattle.record_law.proofs.AliasesBack.{lays_alias}
use Rattle.record_law.specs.FittingModules.{declared, due, Globals, with_globals, EachFits, after_variable, after_function, after_alias, VariableFollows, FunctionFollows, AliasFollows}
use Rattle.record_law.proofs.FunctionsBack.{declared_types}
use Rattle.record_law.proofs.OnTypes.Judged.{judged_from}

module _ (s : Sofar) where
  each_back : {A : Type 0} (code : ℕ) (spell : A → List ℕ) (next : Globals → A → Globals) (fits : Globals → A → Type 0)
      → ((g : Globals) (x : A) → fits g x → record_in (with_globals s g) code (spell x) ≡ Ok (with_globals s (next g x)))
      → (xs : List A) (g : Globals) (behind : Written) → EachFits next fits g xs
      → module_from (with_globals s g) (records_put (put (map (λ x. (code, spell x)) xs) behind)) ≡ module_from (with_globals s (fold next g xs)) (records_put behind)
  each_back code spell next fits step [] g behind fit = refl
  each_back code spell next fits step (x ∷ xs) g behind fit =
      ap (λ (answer : Answer Sofar). answer >>= λ t. module_from t (records_put (put (map (λ x. (code, spell x)) xs) behind))) (step g x fit.0)
      ∙ each_back code spell next fits step xs (next g x) behind fit.1

module _ (s : Sofar) (lays_label : (own : ℕ) → Lays (IsLabel s.texts own) (label s.texts own)) (lays_name : Lays (IsName s.texts) (name s.texts)) where
  placed_variable : (g : Globals) (v : Variable) → VariableFollows s g v → variable_record (with_globals s g) (v, None) ≡ Ok (with_globals s (after_variable g v))
  placed_variable g v fit = rw (fit.1, fit.2, fit.3) refl

  variable_step : (g : Globals) (v : Variable) → VariableFollows s g v → record_in (with_globals s g) 5 ((variable s.texts s.k).spell v) ≡ Ok (with_globals s (after_variable g v))
  variable_step g v fit = ap (variable_record (with_globals s g)) (judged_from (lays_variable s.texts s.k lays_label lays_name) v fit.0) ∙ placed_variable g v fit

  pub variables_back : (vs : List Variable) (g : Globals) (behind : Written) → EachFits after_variable (VariableFollows s) g vs
      → module_from (with_globals s g) (records_put (put (map (λ v. (5, (variable s.texts s.k).spell v)) vs) behind)) ≡ module_from (with_globals s (fold after_variable g vs)) (records_put behind)
  variables_back vs g behind fit = each_back s 5 (variable s.texts s.k).spell after_variable (VariableFollows s) variable_step vs g behind fit

  declares : (f : Function) → IsName s.texts f.name × IsType s.k f.returns × AllByRecursion (IsType s.k) (types_of f) → DeclarationFits s.texts s.k (declared f)
  declares f fit =
      (fit.0, fit.1, (rw (declared_types f) fit.2), ap (λ ts. parameters_of (zip ts (numbers_from 0 (length ts)))) (declared_types f), tt)

  placed_function : (g : Globals) (f : Function) → FunctionFollows s g f → function_record (with_globals s g) (due f, None) ≡ Ok (with_globals s (after_function g f))
  placed_function g f fit = rw (fit.1, fit.2, fit.3) refl

  function_step : (g : Globals) (f : Function) → FunctionFollows s g f → record_in (with_globals s g) 6 ((function s.texts s.k).spell (is_some f.body, f)) ≡ Ok (with_globals s (after_function g f))
  function_step g f fit =
      ap (λ ts. function_record (with_globals s g) (judged (function s.texts s.k) ((name s.texts & linkage & truth & ty s.k & truth & counted (ty s.k)).spell (f.name, (f.linkage, (is_some f.body, (f.returns, (f.variadic, ts)))))))) (sym (declared_types f))
      ∙ ap (function_record (with_globals s g)) (judged_from (lays_function s.texts s.k lays_label lays_name) (due f) (declares f fit.0)) ∙ placed_function g f fit

  pub functions_back : (fs : List Function) (g : Globals) (behind : Written) → EachFits after_function (FunctionFollows s) g fs
      → module_from (with_globals s g) (records_put (put (map (λ f. (6, (function s.texts s.k).spell (is_some f.body, f))) fs) behind)) ≡ module_from (with_globals s (fold after_function g fs)) (records_put behind)
  functions_back fs g behind fit = each_back s 6 (λ f. (function s.texts s.k).spell (is_some f.body, f)) after_function (FunctionFollows s) function_step fs g behind fit

  placed_alias : (g : Globals) (a : Alias) → AliasFollows s g a → alias_record (with_globals s g) (a, None) ≡ Ok (with_globals s (after_alias g a))
  placed_alias g a fit = rw (fit.1, fit.2, fit.3) refl

  alias_step : (g : Globals) (a : Alias) → AliasFollows s g a → record_in (with_globals s g) 7 ((alias s.texts s.k).spell a) ≡ Ok (with_globals s (after_alias g a))
  alias_step g a fit = ap (alias_record (with_globals s g)) (judged_from (lays_alias s.texts s.k lays_label lays_name) a fit.0) ∙ placed_alias g a fit

  pub aliases_back : (all : List Alias) (g : Globals) (behind : Written) → EachFits after_alias (AliasFollows s) g all
      → module_from (with_globals s g) (records_put (put (map (λ a. (7, (alias s.texts s.k).spell a)) all) behind)) ≡ module_from (with_globals s (fold after_alias g all)) (records_put behind)
  aliases_back all g behind fit = each_back s 7 (alias s.texts s.k).spell after_alias (AliasFollows s) alias_step all g behind fit
