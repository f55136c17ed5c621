-- In layers, each resting on those before it: the round picked; the plan and its bytes in the buffer; the refusals up front; the count of
-- the steps; lawful floors; the attempt driven alone, from one request over one exchange to the end; the claims.
pub mod RoundLaws
pub mod PlanLaws
pub mod PlanRecords
pub mod WrittenLaws
pub mod FrontLaws
pub mod CountLaws
pub mod LawfulLaws
pub mod PhaseRequests
pub mod Driven
pub mod Phases
pub mod Decides
pub mod Claims
