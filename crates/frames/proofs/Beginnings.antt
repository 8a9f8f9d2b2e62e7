-- Threads begin in the worker, which is the first function of its name, since no other function has it.
use Rattle.std.proofs.Common.{◌≡◌, ℕ, zero, suc, Bool, true, false, List, [], ◌∷◌, cond, Some, refl, sym, ap, ◌∙◌}
use Rattle.std.specs.Prelude.{slice_get, codes, bytes_eq}
use Rattle.std.proofs.lemmas.Slice.Eq.{bytes_eq-Decides}
use Rattle.bytecode.specs.Code.{Code, FunctionCode}
use Rattle.bytecode.specs.Beginning.{worker_among, beginning_in, beginning}
use Rattle.bytecode.specs.Valid.{Has, IsValid}
use Rattle.bytecode.proofs.Tables.{some_same}

module _ (f : FunctionCode) (named : f.name ≡ codes "worker") where
  -- all functions of the name are this one
  abbrev IsAlone : List FunctionCode → Type 0
  IsAlone fs = (j : ℕ) (g : FunctionCode) → slice_get fs j ≡ Some g → g.name ≡ codes "worker" → g ≡ f

  found_by : (b : Bool) (g : FunctionCode) (fs : List FunctionCode) (n : ℕ) → bytes_eq g.name (codes "worker") ≡ b → slice_get (g ∷ fs) n ≡ Some f → IsAlone (g ∷ fs) → ((k : ℕ) → slice_get fs k ≡ Some f → worker_among fs ≡ Some f) → cond b (Some g) (worker_among fs) ≡ Some f
  found_by true g fs n e s alone others = ap Some (alone 0 g refl ((bytes_eq-Decides g.name (codes "worker")).0 e))
  found_by false g fs zero e s alone others = let same : g ≡ f = some_same g f s in cc (e, (bytes_eq-Decides g.name (codes "worker")).1 (ap (λ (x : FunctionCode). x.name) same ∙ named))
  found_by false g fs (suc n) e s alone others = others n s

  found : (fs : List FunctionCode) (n : ℕ) → slice_get fs n ≡ Some f → IsAlone fs → worker_among fs ≡ Some f
  found [] n s alone = cc s
  found (g ∷ fs) n s alone = found_by (bytes_eq g.name (codes "worker")) g fs n refl s alone (λ k w. found fs k w (λ j h x. alone (suc j) h x))

pub begins_in_worker : (code : Code) (number : ℕ) (worker : FunctionCode) (t : ℕ) → IsValid code → Has code number worker → worker.name ≡ codes "worker" → beginning code t ≡ beginning_in (Some worker) t
begins_in_worker code number worker t v has named =
    ap (λ o. beginning_in o t) (found worker named code.functions number has (λ j g h e.
    let same : j ≡ number = v.distinct j number g worker h has (e ∙ sym named) in
    some_same g worker (sym h ∙ ap (slice_get code.functions) same ∙ has)))
