-- JSON inside of HTML: no byte of it ends its element.
use Rattle.std.specs.Prelude.{◌≡◌, ◌==◌, ◌∷◌, ℕ, List, [], codes, flat_map, false, if◌then◌else◌}
use Rattle.std.specs.List.{list_any}

-- `<`, which JSON has only in texts, as `\u003c`
abbrev pub escaped_byte : ℕ → List ℕ
escaped_byte b = if b == 60 then codes "\\u003c" else b ∷ []

abbrev pub escaped_text : List ℕ → List ℕ
escaped_text text = flat_map escaped_byte text

-- no byte of it is `<`
abbrev pub OpensNoTag : List ℕ → Type 0
OpensNoTag text = list_any (λ b. b == 60) (escaped_text text) ≡ false
