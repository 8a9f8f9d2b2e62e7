-- Files that are kept, found by their names.
use Rattle.std.proofs.Common.{◌≡◌, ◌++◌, ℕ, Bool, true, false, List, [], ◌∷◌, Option, Some, None, cond, ap, refl}
use Rattle.std.specs.Prelude.{bytes_eq, is_some, string_bytes}
use Rattle.std.proofs.lemmas.Bool.{false≢true}
use Rattle.std.proofs.lemmas.Slice.Eq.{bytes_eq-Decides}
use Rattle.command.specs.declared.request.Request.{Request}
use Rattle.serving.specs.Files.{Contents}
use Rattle.system.specs.Kept.{AreReadFrom, IsReadFrom, IsFileKnown, StayKnown, kept_in}
use Rattle.system.specs.declared.kept.KeptFile.{KeptFile}

choice : (b : Bool) (this : Option (List ℕ)) (rest rest' : Option (List ℕ)) → (is_some rest ≡ true → rest' ≡ rest) → is_some (cond b this rest) ≡ true → cond b this rest' ≡ cond b this rest
choice true this rest rest' same known = refl
choice false this rest rest' same known = same known

-- known bytes stay the same
pub still_known : (files : List KeptFile) (file : KeptFile) → StayKnown (kept_in files) (kept_in (files ++ file ∷ []))
still_known [] file name known = absurd (false≢true known)
still_known (f ∷ files) file name known = choice (bytes_eq (string_bytes f.name) name) (Some f.bytes.items) (kept_in files name) (kept_in (files ++ file ∷ []) name) (still_known files file name) known

known_either : (b : Bool) (this : List ℕ) (rest : Option (List ℕ)) → is_some rest ≡ true → is_some (cond b (Some this) rest) ≡ true
known_either true this rest known = refl
known_either false this rest known = known

-- the file that is kept last is known
pub last_known : (files : List KeptFile) (file : KeptFile) → IsFileKnown (kept_in (files ++ file ∷ [])) (string_bytes file.name)
last_known [] file = ap (λ b. is_some (cond b (Some file.bytes.items) None)) ((bytes_eq-Decides (string_bytes file.name) (string_bytes file.name)).1 refl)
last_known (f ∷ files) file = known_either (bytes_eq (string_bytes f.name) (string_bytes file.name)) f.bytes.items (kept_in (files ++ file ∷ []) (string_bytes file.name)) (last_known files file)

-- one more was read in this way
pub one_more_read : (request : Option Request) (contents : Contents) (files : List KeptFile) (file : KeptFile) → AreReadFrom request contents files → IsReadFrom request contents file → AreReadFrom request contents (files ++ file ∷ [])
one_more_read request contents [] file before this = (this, tt)
one_more_read request contents (f ∷ files) file before this = (before.0, one_more_read request contents files file before.1 this)
