-- The limits of a process, as Linux writes them (proc(5)).
use Rattle.std.proofs.Common.{◌≡◌, refl, List, ℕ, ◌++◌, Some, None}
use Rattle.std.specs.Prelude.{codes}
use Rattle.press_server.specs.Files.{connections_by, open_files}

abbrev limits : List ℕ → List ℕ
limits files =
    codes "Limit                     Soft Limit           Hard Limit           Units     \nMax processes             63189                63189                processes \n"
    ++ (files ++ codes "Max locked memory         8388608              8388608              bytes     \n")

-- the soft limit, and not the hard one
limit_is : open_files (limits (codes "Max open files            1024                 524288               files     \n")) ≡ Some 1024
limit_is = refl

no_limit : open_files (limits (codes "Max open files            unlimited            unlimited            files     \n")) ≡ None
no_limit = refl

no_line : open_files (limits (codes "")) ≡ None
no_line = refl

too_few : connections_by (Some 289) ≡ None
too_few = refl

just_enough : connections_by (Some 290) ≡ Some 64
just_enough = refl

usual : connections_by (Some 1024) ≡ Some 798
usual = refl

most : connections_by (Some 1250) ≡ Some 1024
most = refl

none_more : connections_by (Some 524288) ≡ Some 1024
none_more = refl
