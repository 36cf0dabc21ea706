-- Messages that go where they go.
use Rattle.std.proofs.Common.{ℕ, ◌≡◌, ◌==◌, not, Bool, true, false, cond, List, [], ◌∷◌, ◌++◌, IsTrue, refl, sym, subst, ap, ◌∙◌, append-nil, append_assoc}
use Rattle.std.specs.List.{filter}
use Rattle.std.proofs.lemmas.List.Elements.{filter-append}
use Rattle.press_wire.specs.declared.message.Message.{Message}
use Rattle.press_member.specs.Turns.{IsSorted}
use Rattle.press_member.specs.Deeds.{for_others, for_self}

-- one message goes to the member itself, or out
pub one_own : (id : ℕ) (m : Message) (own own' out : List Message) → (m.to == id) ≡ true → own' ≡ own ++ m ∷ [] → IsSorted id (m ∷ []) (IsTrue true) own own' out out
one_own id m own own' out e is = record {
  kept = m ∷ [];
  front = ([], refl);
  own_is = is ∙ ap (λ b. own ++ cond b (m ∷ []) []) (sym e);
  out_is = sym (append-nil out) ∙ ap (λ b. out ++ cond (not b) (m ∷ []) []) (sym e);
  whole = λ w. refl;
}

pub one_out : (id : ℕ) (m : Message) (own out out' : List Message) → (m.to == id) ≡ false → out' ≡ out ++ m ∷ [] → IsSorted id (m ∷ []) (IsTrue true) own own out out'
one_out id m own out out' e is = record {
  kept = m ∷ [];
  front = ([], refl);
  own_is = sym (append-nil own) ∙ ap (λ b. own ++ cond b (m ∷ []) []) (sym e);
  out_is = is ∙ ap (λ b. out ++ cond (not b) (m ∷ []) []) (sym e);
  whole = λ w. refl;
}

-- one more is behind those that went so far
pub one_more : (test : Message → Bool) (first now given new : List Message) (x : Message) → now ≡ first ++ filter test given → new ≡ now ++ filter test (x ∷ []) → new ≡ first ++ filter test (given ++ x ∷ [])
one_more test first now given new x e is =
    is ∙ ap (λ l. l ++ filter test (x ∷ [])) e ∙ append_assoc first (filter test given) (filter test (x ∷ [])) ∙ ap (λ l. first ++ l) (sym (filter-append test given (x ∷ [])))

-- where there was memory all went
pub all_own : (id : ℕ) (sent own own' out out' : List Message) → IsSorted id sent (IsTrue true) own own' out out' → own' ≡ own ++ for_self id sent
all_own id sent own own' out out' s = subst (λ k. own' ≡ own ++ for_self id k) (s.whole refl) s.own_is

pub all_out : (id : ℕ) (sent own own' out out' : List Message) → IsSorted id sent (IsTrue true) own own' out out' → out' ≡ out ++ for_others id sent
all_out id sent own own' out out' s = subst (λ k. out' ≡ out ++ for_others id k) (s.whole refl) s.out_is

-- those before went, and of the next one what there was memory for
pub some_went : (id : ℕ) (given rest sent : List Message) (x : Message) (first_own own own' first_out out out' : List Message) → given ++ x ∷ rest ≡ sent → own ≡ first_own ++ for_self id given → out ≡ first_out ++ for_others id given →
    IsSorted id (x ∷ []) (IsTrue false) own own' out out' → IsSorted id sent (IsTrue false) first_own own' first_out out'
some_went id given rest sent x first_own own own' first_out out out' is of_own of_out s = record {
  kept = given ++ s.kept;
  front = (s.front.0 ++ rest, append_assoc given s.kept (s.front.0 ++ rest) ∙ ap (λ l. given ++ l) (sym (append_assoc s.kept s.front.0 rest) ∙ ap (λ l. l ++ rest) s.front.1) ∙ is);
  own_is = s.own_is ∙ ap (λ l. l ++ for_self id s.kept) of_own ∙ append_assoc first_own (for_self id given) (for_self id s.kept) ∙ ap (λ l. first_own ++ l) (sym (filter-append (λ m. m.to == id) given s.kept));
  out_is = s.out_is ∙ ap (λ l. l ++ for_others id s.kept) of_out ∙ append_assoc first_out (for_others id given) (for_others id s.kept) ∙ ap (λ l. first_out ++ l) (sym (filter-append (λ m. not (m.to == id)) given s.kept));
  whole = λ w. absurd (let e = w in cc);
}

pub all_went : (id : ℕ) (sent first_own own first_out out : List Message) (Whole : Type 0) → own ≡ first_own ++ for_self id sent → out ≡ first_out ++ for_others id sent → IsSorted id sent Whole first_own own first_out out
all_went id sent first_own own first_out out Whole of_own of_out = record { kept = sent; front = ([], append-nil sent); own_is = of_own; out_is = of_out; whole = λ w. refl }
