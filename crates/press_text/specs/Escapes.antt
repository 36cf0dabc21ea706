-- Escaping for HTML: five bytes become entities, every other byte stays (Plugin Handbook, Escaping Data, `esc_html`).
use Rattle.std.specs.Prelude.{ℕ, ◌==◌, List, [], ◌∷◌, if◌then◌else◌, codes}
use Rattle.std.specs.List.{flat_map}

-- `&`, `<`, `>`, `"` and `'`
abbrev pub escaped_byte : ℕ → List ℕ
escaped_byte b =
    if b == 38 then codes "&amp;" else (if b == 60 then codes "&lt;" else (if b == 62 then codes "&gt;" else
    (if b == 34 then codes "&quot;" else (if b == 39 then codes "&#039;" else b ∷ []))))

abbrev pub escaped_text : List ℕ → List ℕ
escaped_text bytes = flat_map escaped_byte bytes
