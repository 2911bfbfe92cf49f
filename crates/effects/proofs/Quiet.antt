-- Commands that carry no password of a hidden image: they find the tag open or wrong, never secured; so their act is the same for both
-- images, and nothing of it touches the password bytes.
use Prim.Native.Nat.{ℕ, ◌+◌, ◌/◌, ◌%◌, ◌≤◌}
use borrow.Author.Tests.{eqb-true, eqb-false, eq-eqb, ne_eqb, le-leb, lt-ltb, ltb-false, not-true}
use lib.Dec.{eqb, leb, ltb}
use lib.ListN.{length}
use mathlib.Core.Bool.{Bool, true, false, not, ◌&&◌, ◌||◌, true≢false}
use mathlib.Core.List.{List}
use mathlib.Core.Logic.{◌≢◌, ⊎_elim}
use mathlib.Core.Path.{◌≡◌, refl, ap, ap₂, sym, subst, ◌∙◌}
use native.Mathlib.Omega.{arith}
use Rattle.std.specs.Prelude.{Ok, Err}
use Rattle.effects.specs.Secrecy.{passwords_at, Locked, Hidden, Command, carries, carries_none}
use Rattle.frame.proofs.Picks.{pick_true, pick_false, by_test}
use Rattle.frame.proofs.Tests.{and_left, and_right, and_second, or_neither, either}
use Rattle.frame.specs.Bytes.{pick, double}
use Rattle.tag.proofs.Cases.{Aimed, act_cases, parse_cases}
use Rattle.image.proofs.GoodImages.{Good, good_facts}
use Rattle.tag.proofs.NamedWords.{inside}
use Rattle.tag.specs.Commands.{password_in, bank_in, pointer_in, count_in, data_in, ld_in, verdict, act_of, inventory_verdict, read_verdict, write_verdict, lock_verdict, kill_verdict}
use Rattle.image.specs.Image.{good, view, bank_of, kill_password, access_password}
use Rattle.tag.specs.Locks.{pairs, standing_of, standing, is_secured, kill_standing_of, kill_standing, allows, touches, may_touch_passwords, may_read, may_write}
use Rattle.tag.specs.Errors.{Verdict}
use Rattle.tag.specs.declared.commands.Act.TheVariants.{Notify, Give, Store, Set}
use Rattle.tag.specs.declared.commands.Parsed.{Parsed}
use Rattle.image.specs.declared.header.View.{View}
use Rattle.tag.specs.declared.locks.KillStanding.TheVariants.{Equal, Different}
use Rattle.tag.specs.declared.locks.Standing.{Standing}
use Rattle.tag.specs.declared.locks.Standing.TheVariants.{Open, Wrong}

-- ---- what a command does not carry

carries_not : (m : Command) (password : ℕ) → carries m password ≡ false → 4 ≤ length m.parameters → double m.parameters 0 ≢ password
unfolding carries
carries_not m password h four = eqb-false _ _ (and_second (leb 4 (length m.parameters)) _ (le-leb _ _ four) h)

neither : (code first second : Bool) → not (code && (first || second)) ≡ true → code ≡ true → (first ≡ false) × (second ≡ false)
neither code first second h c = or_neither first second (and_second code (first || second) c (not-true _ h))

-- a command carries no password of an image
pub record Untold (a : List ℕ) (m : Command) : Type 0 where
  pub access : (eqb m.code 0x39 || eqb m.code 0x49 || eqb m.code 0x82) ≡ true → 4 ≤ length m.parameters
      → double m.parameters 0 ≢ access_password a
  pub kill : eqb m.code 0x65 ≡ true → 4 ≤ length m.parameters → double m.parameters 0 ≢ kill_password a

pub untold : (a b : List ℕ) (m : Command) → carries_none a b m ≡ true → Untold a m × Untold b m
unfolding carries_none
untold a b m quiet =
    let accesses : Bool = eqb m.code 0x39 || eqb m.code 0x49 || eqb m.code 0x82 in
    let kills : Bool = eqb m.code 0x65 in
    let tells-access : Bool = carries m (access_password a) || carries m (access_password b) in
    let tells-kill : Bool = carries m (kill_password a) || carries m (kill_password b) in
    let access : accesses ≡ true → (carries m (access_password a) ≡ false) × (carries m (access_password b) ≡ false) =
    neither accesses (carries m (access_password a)) (carries m (access_password b))
    (and_left (not (accesses && tells-access)) (not (kills && tells-kill)) quiet)
    in
    let kill : kills ≡ true → (carries m (kill_password a) ≡ false) × (carries m (kill_password b) ≡ false) =
    neither kills (carries m (kill_password a)) (carries m (kill_password b))
    (and_right (not (accesses && tells-access)) (not (kills && tells-kill)) quiet)
    in (
      record { access = λ c four. carries_not m _ (access c).0 four; kill = λ c four. carries_not m _ (kill c).0 four },
      record { access = λ c four. carries_not m _ (access c).1 four; kill = λ c four. carries_not m _ (kill c).1 four },
    )

-- ---- a stored password that is nonzero and not given leaves a tag open or wrong

closed_standing : (stored given : ℕ) → stored ≢ 0 → given ≢ stored → standing_of stored given ≡ pick (eqb given 0) Open Wrong
unfolding standing_of
closed_standing stored given n d = simp (ne_eqb stored 0 n, ne_eqb given stored d, pick_false)

not_secured : (stored given : ℕ) → stored ≢ 0 → given ≢ stored → is_secured (standing_of stored given) ≡ false
unfolding is_secured
not_secured stored given n d =
    ap is_secured (closed_standing stored given n d) ∙ by_test (λ (s : Standing). is_secured s ≡ false) (eqb given 0) (λ h. refl) (λ h. refl)

closed_kill : (stored given : ℕ) → stored ≢ 0 → given ≢ stored → kill_standing_of stored given ≡ Different
unfolding kill_standing_of
closed_kill stored given n d = simp (ne_eqb stored 0 n, ne_eqb given stored d, pick_false)

-- ---- a locked password region lets no open or wrong tag through

shut : (pair : ℕ) (s : Standing) → Locked pair → is_secured s ≡ false → allows pair s ≡ false
unfolding allows pick
shut pair s l n =
    ⊎_elim (λ e. subst (λ (k : ℕ). allows k s ≡ false) (sym e) n) (λ e. subst (λ (k : ℕ). allows k s ≡ false) (sym e) refl) l

passwords_shut : (v : View) (s : Standing) (pointer count : ℕ) → Locked (pairs v.locks).kill → Locked (pairs v.locks).access
    → is_secured s ≡ false → 1 ≤ count → pointer + count ≤ 4 → may_touch_passwords v s pointer count ≡ false
unfolding may_touch_passwords touches
passwords_shut v s pointer count kill access n some most =
    either (ltb pointer 2)
    (λ low. simp (low, lt-ltb 0 (pointer + count) (omega arith), shut _ s kill n))
    (λ high.
    simp (
      high,
      lt-ltb pointer 4 (omega arith),
      lt-ltb 2 (pointer + count) (omega (arith, ltb-false pointer 2 high)),
      shut _ s access n,
    ))

may_read_lem : (v : View) (s : Standing) (bank pointer count : ℕ) → bank ≡ 0 → may_read v s bank pointer count ≡ true → may_touch_passwords v s pointer count ≡ true
unfolding may_read
may_read_lem v s bank pointer count z may = simp (eq-eqb bank 0 z, pick_true) at may

may_write_lem : (v : View) (s : Standing) (bank pointer count : ℕ) → bank ≡ 0 → may_write v s bank pointer count ≡ true → may_touch_passwords v s pointer count ≡ true
unfolding may_write
may_write_lem v s bank pointer count z may = simp (eq-eqb bank 0 z, pick_true) at may

-- ---- images in the course of a run

-- x is what became of a: the passwords, their place and the locks are a's
pub record Kept (a x : List ℕ) : Type 0 where
  pub image_good : good x ≡ true
  pub place : passwords_at x ≡ passwords_at a
  pub kill : kill_password x ≡ kill_password a
  pub access : access_password x ≡ access_password a
  pub locks : (view x).locks ≡ (view a).locks

-- nothing of an act touches the password bytes
abbrev pub Public : View → Verdict → Type 0
Public v (Err refusal) = Unit
Public v (Ok Notify) = Unit
Public v (Ok (Give at n)) = v.reserved.offset + 8 ≤ at
Public v (Ok (Store at)) = v.reserved.offset + 8 ≤ at
Public v (Ok (Set code at count value)) = ⊥

accessing : (code n : ℕ) → code ≡ n → (eqb n 0x39 || eqb n 0x49 || eqb n 0x82) ≡ true → (eqb code 0x39 || eqb code 0x49 || eqb code 0x82) ≡ true
accessing code n e h = subst (λ (k : ℕ). (eqb k 0x39 || eqb k 0x49 || eqb k 0x82) ≡ true) (sym e) h

-- an image of the pair, and a command that carries neither password
module _ (a x : List ℕ) (hidden : Hidden a) (kept : Kept a x) (p : List ℕ) where
  unsecured : password_in p ≢ access_password a → is_secured (standing x (password_in p)) ≡ false
  unfolding standing
  unsecured d =
      subst (λ (n : ℕ). is_secured (standing_of n (password_in p)) ≡ false) (sym kept.access)
      (not_secured (access_password a) (password_in p) hidden.access_nonzero d)

  unequal : password_in p ≢ kill_password a → kill_standing x (password_in p) ≡ Different
  unfolding kill_standing
  unequal d =
      ap (λ (n : ℕ). kill_standing_of n (password_in p)) kept.kill
      ∙ closed_kill (kill_password a) (password_in p) hidden.kill_nonzero d

  -- the words that a command may touch are not those of the Reserved bank
  not_reserved : password_in p ≢ access_password a → Aimed (view x) (bank_in p) (pointer_in p) (count_in p)
      → ((bank_in p ≡ 0) → may_touch_passwords (view x) (standing x (password_in p)) (pointer_in p) (count_in p) ≡ true) → 1 ≤ bank_in p
  unfolding bank_of
  not_reserved d aim may =
      either (eqb (bank_in p) 0)
      (λ e.
      let g : Good (view x) = good_facts x kept.image_good in
      let four : (bank_of (view x) (bank_in p)).words ≡ 4 = simp (e, pick_true) g.reserved_words in
      let no_way : may_touch_passwords (view x) (standing x (password_in p)) (pointer_in p) (count_in p) ≡ false =
      passwords_shut (view x) (standing x (password_in p)) (pointer_in p) (count_in p)
      (subst (λ (n : ℕ). Locked (pairs n).kill) (sym kept.locks) hidden.kill_locked)
      (subst (λ (n : ℕ). Locked (pairs n).access) (sym kept.locks) hidden.access_locked)
      (unsecured d)
      aim.count_least
      (omega (arith, aim.inside, four))
      in
      absurd (true≢false (sym (may (eqb-true _ _ e)) ∙ no_way)))
      (λ n. omega (arith, eqb-false (bank_in p) 0 n))

  pub public_act : (code : ℕ) → Untold a record { code = code; parameters = p } → Public (view x) (act_of x code p)
  unfolding password_in
  public_act code secret =
      let g : Good (view x) = good_facts x kept.image_good in
      act_cases (Public (view x)) (λ e. tt) (λ e. tt) x p code
      (λ e. tt)
      (λ e reads.
      let d : password_in p ≢ access_password a = secret.access (accessing code 0x39 e refl) (omega (arith, reads.fields)) in
      (inside x p g reads.aim).behind (not_reserved d reads.aim (λ z. may_read_lem _ _ _ _ _ z reads.may)))
      (λ e writes.
      let d : password_in p ≢ access_password a = secret.access (accessing code 0x49 e refl) (omega (arith, writes.fields)) in
      (inside x p g writes.aim).behind (not_reserved d writes.aim (λ z. may_write_lem _ _ _ _ _ z writes.may)))
      (λ e locks.
      let d : password_in p ≢ access_password a = secret.access (accessing code 0x82 e refl) (omega (arith, locks.fields)) in
      absurd (true≢false (sym locks.secured ∙ unsecured d)))
      (λ e kills.
      let d : password_in p ≢ kill_password a = secret.kill (eq-eqb code 0x65 e) (omega (arith, kills.fields)) in
      let same : Different ≡ Equal = sym (unequal d) ∙ kills.equal in
      let z : ◌≡◌ {A = ℕ} 0 1 = cc in
      absurd (omega arith))

-- the two images, and a command that carries none of their passwords
module _ (a b x y : List ℕ) (ha : Hidden a) (hb : Hidden b) (kx : Kept a x) (ky : Kept b y) (sight : view x ≡ view y) (p : List ℕ) where
  same_standing : password_in p ≢ access_password a → password_in p ≢ access_password b → standing x (password_in p) ≡ standing y (password_in p)
  unfolding standing
  same_standing d e =
      ap (λ (n : ℕ). standing_of n (password_in p)) kx.access
      ∙ closed_standing (access_password a) (password_in p) ha.access_nonzero d
      ∙ sym (closed_standing (access_password b) (password_in p) hb.access_nonzero e)
      ∙ ap (λ (n : ℕ). standing_of n (password_in p)) (sym ky.access)

  pub same_act : (code : ℕ) → Untold a record { code = code; parameters = p } → Untold b record { code = code; parameters = p } → act_of x code p ≡ act_of y code p
  unfolding act_of verdict password_in
  same_act code ua ub =
      let same : (n : ℕ) → code ≡ n → (eqb n 0x39 || eqb n 0x49 || eqb n 0x82) ≡ true → 4 ≤ length p → standing x (password_in p) ≡ standing y (password_in p) =
      λ n e h four. same_standing (ua.access (accessing code n e h) four) (ub.access (accessing code n e h) four)
      in
      parse_cases (λ (m : Parsed). verdict x p m ≡ verdict y p m) p refl code
      (λ e. ap inventory_verdict sight)
      (λ e fields aim.
      ap₂ (λ (v : View) (s : Standing). read_verdict v s (bank_in p) (pointer_in p) (count_in p)) sight (same 0x39 e refl (omega (arith, fields))))
      (λ e fields aim.
      ap₂ (λ (v : View) (s : Standing). write_verdict v s (bank_in p) (pointer_in p) (count_in p) (data_in p)) sight (same 0x49 e refl (omega (arith, fields))))
      (λ e fields.
      ap₂ (λ (v : View) (s : Standing). lock_verdict v s (ld_in p / 1024) (ld_in p % 1024)) sight (same 0x82 e refl (omega (arith, fields))))
      (λ e fields.
      ap₂ kill_verdict sight
      (unequal a x ha kx p (ua.kill (eq-eqb code 0x65 e) (omega (arith, fields)))
      ∙ sym (unequal b y hb ky p (ub.kill (eq-eqb code 0x65 e) (omega (arith, fields))))))
