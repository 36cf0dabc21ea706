-- Active plugins, in the order of their names, byte by byte (Plugin Handbook, Activation; the order is own).
use Rattle.std.specs.Prelude.{ℕ, List, length, filter, insert, position, unwrap_or, Bool, not, bytes_eq, if◌then◌else◌, Result, Ok, Err}
use Rattle.std.specs.List.{list_any}
use Rattle.press_text.specs.NameOrder.{is_before}
use Rattle.press_site.specs.declared.fault.SiteFault.{SiteFault}
use Rattle.press_site.specs.declared.fault.SiteFault.TheVariants.{AlreadyActive, NotActive}

abbrev pub is_active : List ℕ → List (List ℕ) → Bool
is_active name names = list_any (bytes_eq name) names

-- before the first of a later name, or last
abbrev pub place_in : List ℕ → List (List ℕ) → ℕ
place_in name names = unwrap_or (position (is_before name) names) (length names)

abbrev pub activate_plugin : List ℕ → List (List ℕ) → Result (List (List ℕ)) SiteFault
activate_plugin name names = if is_active name names then Err AlreadyActive else Ok (insert names (place_in name names) name)

abbrev pub without : List ℕ → List (List ℕ) → List (List ℕ)
without name names = filter (λ n. not (bytes_eq n name)) names

abbrev pub deactivate_plugin : List ℕ → List (List ℕ) → Result (List (List ℕ)) SiteFault
deactivate_plugin name names = if is_active name names then Ok (without name names) else Err NotActive
