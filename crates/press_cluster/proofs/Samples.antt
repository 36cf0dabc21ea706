-- Digests by FNV-1a, as its authors' test vectors have them.
use Rattle.std.proofs.Common.{◌≡◌, refl}
use Rattle.std.specs.Prelude.{codes}
use Rattle.press_cluster.specs.Digests.{digest_of}

of_nothing : digest_of (codes "") ≡ 14695981039346656037
of_nothing = refl

of_one : digest_of (codes "a") ≡ 12638187200555641996
of_one = refl

of_six : digest_of (codes "foobar") ≡ 9625390261332436968
of_six = refl
