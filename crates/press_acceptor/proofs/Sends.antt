-- Messages to all members.
use Rattle.std.proofs.Common.{ℕ, ◌+◌, ◌≡◌, [], ◌∷◌, ◌++◌, sym, ap, ◌∙◌, arith}
use Rattle.std.proofs.lemmas.List.FromFn.{map-range_with_len_more}
use Rattle.press_wire.specs.declared.message.Body.{Body}
use Rattle.press_acceptor.specs.Messages.{message_to, to_all}

pub to_all_more : (n id slot to : ℕ) (copy body : Body) → copy ≡ body → to ≡ n + 1 → to_all n id slot body ++ message_to id slot copy to ∷ [] ≡ to_all (n + 1) id slot body
to_all_more n id slot to copy body e f =
    ap (λ b. to_all n id slot body ++ message_to id slot b to ∷ []) e
    ∙ ap (λ x. to_all n id slot body ++ message_to id slot body x ∷ []) f
    ∙ sym (map-range_with_len_more (message_to id slot body) 1 n (n + 1) (omega arith))
