-- The parser's tokens are those of methods.
use Rattle.std.proofs.Common.{ℕ, List}
use Rattle.httparse.specs.Grammar.{IsToken, is_token_byte}
use Rattle.http_header.specs.Token.{IsToken as IsMethodToken, is_token_byte as is_method_byte}

pub same_token : (bytes : List ℕ) → IsToken bytes → IsMethodToken bytes
unfolding is_token_byte is_method_byte
same_token bytes p = p
