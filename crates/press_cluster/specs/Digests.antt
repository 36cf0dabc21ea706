-- FNV-1a over 64 bits (Fowler, Noll and Vo); of several files behind each other with a byte between
-- them (own).
use Rattle.std.specs.Prelude.{ℕ, ◌*◌, ◌%◌, List, [], ◌∷◌, bit_xor}

-- the digest behind further bytes
abbrev pub behind_bytes : ℕ → List ℕ → ℕ
behind_bytes digest [] = digest
behind_bytes digest (byte ∷ rest) = behind_bytes (bit_xor digest byte * 1099511628211 % 18446744073709551616) rest

abbrev pub digest_of : List ℕ → ℕ
digest_of bytes = behind_bytes 14695981039346656037 bytes

-- the digest behind a further file; the byte in front of it stands in no UTF-8 (RFC 3629, 1), so
-- that files that are cut elsewhere differ
abbrev pub behind_file : ℕ → List ℕ → ℕ
behind_file digest bytes = behind_bytes digest (255 ∷ bytes)

abbrev pub behind_files : ℕ → List (List ℕ) → ℕ
behind_files digest [] = digest
behind_files digest (bytes ∷ files) = behind_files (behind_file digest bytes) files

-- of files in their order; that of one is the digest of its bytes
abbrev pub digest_of_files : List (List ℕ) → ℕ
digest_of_files [] = digest_of []
digest_of_files (bytes ∷ files) = behind_files (digest_of bytes) files
