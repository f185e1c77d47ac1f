-- What a history holds once something has been added.
use Rattle.std.proofs.Common.{◌≡◌, ℕ, ◌+◌, Bool, true, false, List, [], ◌∷◌, ◌++◌, Option, refl, sym, ◌∙◌, ap, cond, max, append_assoc, arith}
use Rattle.std.proofs.lemmas.List.{append-nil}
use Rattle.model.specs.declared.event.Event.{Event}
use Rattle.model.specs.declared.event.Moment.{Moment}
use Rattle.model.specs.declared.event.Moment.TheVariants.{Wrote, Happened}
use Rattle.model.specs.declared.event.Writer.{Writer}
use Rattle.model.specs.declared.event.Writer.TheVariants.{Command}
use Rattle.model.specs.declared.outcome.Write.{Write}
use Rattle.model.specs.World.{File, file_after, file_from, view_of, latest, latest_from}
use Rattle.sim.specs.History.{is_skipped, with_write, with_writes, IsLonger}

pub file_from-push : (p : List ℕ) (file : Option File) (h : List Moment) (m : Moment) → file_from p file (h ++ m ∷ []) ≡ file_after p (file_from p file h) m
file_from-push p file [] m = refl
file_from-push p file (x ∷ h) m = file_from-push p (file_after p file x) h m

-- ---- what the history's own fields are once a moment has been added

latest_from-append : (n : ℕ) (h k : List Moment) → latest_from n (h ++ k) ≡ latest_from (latest_from n h) k
latest_from-append n [] k = refl
latest_from-append n (Wrote by path content stamp ∷ h) k = latest_from-append (max n stamp) h k
latest_from-append n (Happened e ∷ h) k = latest_from-append n h k

pub latest-wrote : (h : List Moment) (by : Writer) (path : List ℕ) (content : Option (List ℕ)) → latest (h ++ Wrote by path content (latest h + 1) ∷ []) ≡ latest h + 1
latest-wrote h by path content = latest_from-append 0 h (Wrote by path content (latest h + 1) ∷ []) ∙ omega arith

pub clocked_wrote : (clock later : ℕ) (h new : List Moment) (by : Writer) (path : List ℕ) (content : Option (List ℕ)) → clock ≡ latest h → later ≡ clock + 1 → new ≡ h ++ Wrote by path content (clock + 1) ∷ [] → later ≡ latest new
clocked_wrote clock later h new by path content clocked next is =
    next ∙ ap (λ (n : ℕ). n + 1) clocked ∙ sym (latest-wrote h by path content) ∙ sym (ap latest (is ∙ ap (λ (n : ℕ). h ++ Wrote by path content (n + 1) ∷ []) clocked))

pub latest-happened : (h new : List Moment) (event : Event) → new ≡ h ++ Happened event ∷ [] → latest new ≡ latest h
latest-happened h new event is = ap latest is ∙ latest_from-append 0 h (Happened event ∷ [])

-- ---- the writes of a command

pub with_writes-push : (job : ℕ) (writes : List Write) (write : Write) (h : List Moment) → with_writes job (writes ++ write ∷ []) h ≡ with_write job write (with_writes job writes h)
with_writes-push job [] write h = refl
with_writes-push job (w ∷ writes) write h = with_writes-push job writes write (with_write job w h)

with_write-longer : (job : ℕ) (write : Write) (h : List Moment) → IsLonger h (with_write job write h)
with_write-longer job write h = by_test (is_skipped (view_of h) write)
  where
    by_test : (b : Bool) → IsLonger h (cond b h (h ++ Wrote (Command job) write.path write.content (latest h + 1) ∷ []))
    by_test true = ([], sym (append-nil h))
    by_test false = (Wrote (Command job) write.path write.content (latest h + 1) ∷ [], refl)

pub longer_with : (job : ℕ) (write : Write) (start h new : List Moment) → IsLonger start h → new ≡ with_write job write h → IsLonger start new
longer_with job write start h new longer is =
    let one = with_write-longer job write h in
    (longer.0 ++ one.0, is ∙ one.1 ∙ ap (λ (l : List Moment). l ++ one.0) longer.1 ∙ append_assoc start longer.0 one.0)

pub clocked_append : (clock stamp : ℕ) (h new : List Moment) (by : Writer) (path : List ℕ) (content : Option (List ℕ)) → clock ≡ latest h → stamp ≡ clock + 1 → new ≡ h ++ Wrote by path content stamp ∷ [] → stamp ≡ latest new
clocked_append clock stamp h new by path content clocked next is = clocked_wrote clock stamp h new by path content clocked next (is ∙ ap (λ (n : ℕ). h ++ Wrote by path content n ∷ []) next)
